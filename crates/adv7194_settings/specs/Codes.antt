-- Document 01, "Codings": the codes that settings mean, field by field of the table. Settings are 49 signed numbers.
use Rattle.std.specs.Prelude.{List, ℕ, ℤ, pos}
use Rattle.refusals.specs.Refusal.{Judged, accepted}
use Rattle.field_table.specs.Walk.{given}
use Rattle.adv7194_table.specs.declared.blocks.Block.{Block}
use Rattle.adv7194_table.specs.Fields.{standard, square_pixel}
use Rattle.adv7194_table.specs.Table.{Content, signals, curve, subcarrier}
use Rattle.adv7194_signalling.specs.Signalling.{signalling_codes}
use Rattle.adv7194_gamma.specs.Curve.{curve_codes}
use Rattle.adv7194_subcarrier.specs.Subcarrier.{word_codes}
use Rattle.field_table.specs.Blocks.{slice}

-- the settings' numbers that a block has
abbrev pub numbers_in : List ℤ → Block → List ℤ
numbers_in zs b = slice (pos 0) zs b.index b.numbers

-- the bytes that code a block; the subcarrier word is worked out from the standard and square pixel
abbrev pub block_codes : List ℤ → Content → Block → Judged (List ℕ)
block_codes zs signals b = signalling_codes (numbers_in zs b)
block_codes zs curve b = curve_codes (numbers_in zs b)
block_codes zs subcarrier b = accepted (word_codes (given zs standard.row) (given zs square_pixel.row))
