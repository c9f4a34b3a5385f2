-- Document 02, P1: the lines of the fields of two images that differ, with both settings, or both raw codes where reading refuses either image.
use Rattle.std.specs.Prelude.{Bool, cond, List, [], ◌++◌, ℕ, ℤ}
use Rattle.text.specs.Text.{line_end}
use Rattle.writing.specs.Ascii.{ascii}
use Rattle.adv7194_lines.specs.Lines.{label_text}
use Rattle.compare_fields.specs.Values.{side_of}

-- field n's line: `12 contrast 1000 thousandths | 1180 thousandths`, or `12 contrast raw 80 | 97`
unfoldable pub field_line : Bool → List ℕ → List ℕ → List ℤ → List ℤ → ℕ → List ℕ
field_line both a b za zb n = label_text n ++ cond both [] (ascii " raw") ++ side_of both a za n ++ ascii " |" ++ side_of both b zb n ++ line_end
