-- `lines::register_lines`: each turn puts the line of one register more, where it differs. Assumes nothing.
use Rattle.std.proofs.Common.{arith}
use Rattle.writing.proofs.Putting.{same_text}
use Rattle.compare_fields.proofs.LineLaws.{lining_begins, line_room, line_put, all-put}
use Rattle.compare_listing.specs.Widths.{register_width}
use Rattle.compare_listing.proofs.LineLaws.{register-lines-all}
use Rattle.compare_listing.proofs.lines.register_lines.Goals as goal

pub loop-register-init : goal.loop-register-init
loop-register-init c = lining_begins _ _ 0 54 register_width c.args.line.now c.args.at (omega arith) (omega arith)

pub register_line-place-requires : goal.register_line-place-requires
register_line-place-requires c = (line_room c.loop-register.invariant (omega arith) c.requires, omega arith)

pub loop-register-preserved : goal.loop-register-preserved
loop-register-preserved c = line_put c.loop-register.invariant (omega arith) c.requires c.register_line-place.ensures.written

pub returns : goal.returns
returns c = record { written = same_text (register-lines-all _ _ _) (all-put c.loop-register.invariant (omega arith)) }
