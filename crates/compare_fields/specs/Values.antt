-- Document 02, P1: what is shown of a field on one side: its setting, as it is listed for one image, field 28's being its word; or its raw code.
use Rattle.std.specs.Prelude.{Bool, cond, ℕ, eqb, ℤ}
use mathlib.Core.List.{List, [], ◌++◌, reverse, foldr, flat_map}
use Rattle.text.specs.Text.{space, hex_byte, hex_text}
use Rattle.adv7194_table.specs.Table.{signals, curve, subcarrier, Entry, single, whole, table, field_of}
use Rattle.adv7194_table.specs.Masks.{own_mask}
use Rattle.adv7194_table.specs.RawCodes.{own_bits, raw_code}
use Rattle.adv7194_lines.specs.Kinds.{value_text}
use Rattle.field_table.specs.Blocks.{slice}

-- what register r adds to field n's raw code: its byte after a space, or nothing where the field has no bits of it
abbrev pub own_text : List ℕ → ℕ → ℕ → List ℕ
own_text image n r = cond (eqb (own_mask n r) 0) [] (space ++ hex_byte (own_bits image n r))

-- the setting of an entry of the table, the image's settings being these numbers; the word's bytes in hexadecimal, the highest first
abbrev pub entry_value : List ℕ → List ℤ → Entry → List ℕ
entry_value image zs (single f) = value_text zs (single f)
entry_value image zs (whole signals b) = value_text zs (whole signals b)
entry_value image zs (whole curve b) = value_text zs (whole curve b)
entry_value image zs (whole subcarrier b) = flat_map hex_byte (reverse (slice 0 image b.register b.registers))

-- the setting of field n: that of the first entry of the table that is the field's
abbrev pub field_value : List ℕ → List ℤ → ℕ → List ℕ
field_value image zs n = foldr (λ e other. cond (eqb n (field_of e)) (entry_value image zs e) other) [] table

-- what is shown on one side, after a space: the setting, or the raw code
abbrev pub side_of : Bool → List ℕ → List ℤ → ℕ → List ℕ
side_of both image zs n = cond both (space ++ field_value image zs n) (hex_text (raw_code image n))
