-- Document 01, "What the build must be and follow": the base lists settings. A line a field: the number, the name and the setting in its own unit, one space
-- between.
use Rattle.std.specs.Prelude.{Bool, cond, List, [], ◌++◌, ℕ, ltb, ℤ}
use Rattle.text.specs.Text.{space, line_end, decimal}
use Rattle.adv7194_table.specs.Fields.{number_count}
use Rattle.adv7194_table.specs.Table.{Entry, single, whole, field_of}
use Rattle.writing.specs.Ascii.{ascii}
use Rattle.adv7194_names.specs.Names.{named}
use Rattle.adv7194_lines.specs.Kinds.{value_text}

-- a field's number and name
unfoldable pub label_text : ℕ → List ℕ
label_text f = decimal f ++ space ++ ascii (named f).name

-- an entry of the table has a line: it has numbers of the settings
abbrev pub listed : Entry → Bool
listed (single f) = ltb f.row.index number_count
listed (whole c b) = ltb 0 b.numbers

-- its line
abbrev pub line_of : List ℤ → Entry → List ℕ
line_of zs e = cond (listed e) (label_text (field_of e) ++ space ++ value_text zs e ++ line_end) []
