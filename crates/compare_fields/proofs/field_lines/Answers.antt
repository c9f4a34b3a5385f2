-- `field_lines`: each turn puts the line of one field more, where the field differs. Assumes nothing.
use Rattle.std.proofs.Common.{◌<◌, arith}
use Rattle.writing.proofs.Putting.{same_text}
use Rattle.compare_fields.specs.Widths.{field_width}
use Rattle.compare_fields.proofs.LineLaws.{lining_begins, line_room, line_put, all-put, field-lines-all}
use Rattle.compare_fields.proofs.field_lines.Goals as goal

pub loop-field-init : goal.loop-field-init
loop-field-init c = lining_begins _ _ 1 29 field_width c.args.line.now c.args.at (omega arith) (omega arith)

pub field_line-place-requires : goal.field_line-place-requires
field_line-place-requires c = (line_room c.loop-field.invariant (omega arith) c.requires, omega arith, omega arith)

pub loop-field-preserved : goal.loop-field-preserved
loop-field-preserved c = line_put c.loop-field.invariant (omega arith) c.requires c.field_line-place.ensures.written

pub returns : goal.returns
returns c = record { written = same_text (field-lines-all _ _ _) (all-put c.loop-field.invariant (omega arith)) }
