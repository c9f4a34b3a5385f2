-- `field_lines`: what was written and the lines of the fields that are left are all lines.
use Rattle.adv7194_compare.specs.Differences.{field_differs}
use Rattle.compare_fields.specs.FieldLines.{field_line}
use Rattle.compare_fields.specs.Widths.{field_width}
use Rattle.compare_fields.proofs.LineLaws.{Lining}
use Rattle.compare_fields.proofs.field_lines.Given as goal

abbrev pub invariant-loop-field : goal.invariant-loop-field
invariant-loop-field l =
    Lining (field_differs l.a l.b) (field_line l.readable l.a l.b l.left l.right) 1 29 field_width l.initial.line l.at l.line l.place l.field
