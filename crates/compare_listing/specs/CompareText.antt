-- Document 02, P1: the text of two images side by side. First how many differences there are, then a line for each field that differs, in the table's order,
-- with both settings, or both raw codes where reading refuses either image; then a line for each register that differs in bits outside all fields. Or the
-- refusal.
use Rattle.std.specs.Prelude.{Bool, cond, ◌&&◌, ℕ, ◌+◌, ℤ, length}
use mathlib.Core.List.{List, ◌++◌, flat_map}
use Rattle.text.specs.Text.{space, line_end, decimal, hex_byte}
use Rattle.listing.specs.Lines.{refused_line}
use Rattle.adv7194_table.specs.RawCodes.{outside_bits}
use Rattle.adv7194_settings.specs.Held.{settings_held}
use Rattle.writing.specs.Ascii.{ascii}
use Rattle.adv7194_compare.specs.Differences.{fields_differing, registers_differing}
use Rattle.adv7194_compare.specs.Compare.{can_be_read, whole}
use Rattle.compare_fields.specs.FieldLines.{field_line}

-- `DIFFERENCES n`
unfoldable pub count_line : ℕ → List ℕ
count_line n = ascii "DIFFERENCES " ++ decimal n ++ line_end

-- `register 03 A0 | A5`
unfoldable pub register_line : List ℕ → List ℕ → ℕ → List ℕ
register_line a b r = ascii "register " ++ hex_byte r ++ space ++ hex_byte (outside_bits a r) ++ ascii " | " ++ hex_byte (outside_bits b r) ++ line_end

-- the text of two images of the right length, whose settings are these numbers where both can be read
unfoldable pub side_text : Bool → List ℕ → List ℕ → List ℤ → List ℤ → List ℕ
side_text both a b za zb =
    count_line (length (fields_differing a b) + length (registers_differing a b))
    ++ flat_map (field_line both a b za zb) (fields_differing a b)
    ++ flat_map (register_line a b) (registers_differing a b)

-- the text of two images
unfoldable pub compare_text : List ℕ → List ℕ → List ℕ
compare_text a b = cond (whole a && whole b) (side_text (can_be_read a && can_be_read b) a b (settings_held a) (settings_held b)) (refused_line 1 0)
