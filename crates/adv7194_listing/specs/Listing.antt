-- Document 01, "What the build must be and follow": the base lists settings. The text of a board: a line a field, in the fixed order of the fields, with the
-- number, the name and the setting in its own unit, one space between. Where the board is refused: the line `REFUSED number field`, and a second line that says
-- in words what is at fault.
use mathlib.Core.List.{List, ◌++◌, flat_map}
use Rattle.std.specs.Prelude.{ℕ}
use Rattle.listing.specs.Lines.{refused_line}
use Rattle.refusals.specs.Verdict.{Verdict, good, refused_at}
use Rattle.adv7194_bus.specs.declared.board.Board.{Board}
use Rattle.adv7194_table.specs.Fields.{number_count}
use Rattle.adv7194_table.specs.Table.{table}
use Rattle.adv7194_settings.specs.Held.{settings_held}
use Rattle.adv7194_settings.specs.Reading.{read_of}
use Rattle.adv7194_lines.specs.Lines.{line_of}
use Rattle.adv7194_listing.specs.Faults.{fault_text}

-- the text of an image by what its reading answers
abbrev pub text_by : List ℕ → Verdict (Unit {0}) → List ℕ
text_by image (good u) = flat_map (line_of (settings_held image)) table
text_by image (refused_at n f) = refused_line n f ++ fault_text image n f

-- the text of a board
unfoldable pub settings_text : Board → List ℕ
settings_text b = text_by b.registers (read_of b number_count)
