-- `lines::row_lines`: the lines of the rows passed were written, one after the other.
use Rattle.std.proofs.Common.{◌*◌, take}
use mathlib.Core.List.{map, flat_map}
use Rattle.field_table.specs.Coding.{plain_fields}
use Rattle.adv7194_table.specs.Table.{single}
use Rattle.writing.specs.Put.{Put}
use Rattle.adv7194_names.specs.Widths.{line_width}
use Rattle.adv7194_lines.specs.Lines.{line_of}
use Rattle.adv7194_lines.proofs.lines.row_lines.Given as goal

abbrev pub invariant-loop-packed : goal.invariant-loop-packed
invariant-loop-packed l =
    Put (line_width * l.packed-index) l.initial.line l.at (flat_map (line_of l.numbers) (map single (plain_fields (take l.packed-index l.rows)))) l.line l.place
