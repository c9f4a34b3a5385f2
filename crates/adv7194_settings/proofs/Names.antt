-- Names that proofs use for parts of definitions.
use mathlib.Core.Bool.{Bool, not}
use mathlib.Core.List.{List}
use Prim.Native.Nat.{ℕ}
use Rattle.field_table.specs.Writes.{Write}
use Rattle.adv7194_bus.specs.declared.board.Board.{Board}
use Rattle.adv7194_bus.specs.Board.{knows}
use Rattle.adv7194_table.specs.declared.blocks.Block.{Block}
use Rattle.adv7194_table.specs.Fields.{standard, square_pixel}
use Rattle.adv7194_subcarrier.specs.Subcarrier.{word_codes}
use Rattle.adv7194_settings.specs.Held.{setting_held}

-- what off sets
abbrev pub off_write : Block → Write
off_write b = record { register = b.register; place = 4; width = 4; value = 0 }

-- register r is not known
abbrev pub unknown : Board → ℕ → Bool
unknown b r = not (knows b r)

-- the subcarrier word's bytes by the standard and square pixel that an image holds
abbrev pub word_due : List ℕ → List ℕ
word_due image = word_codes (setting_held image standard) (setting_held image square_pixel)
