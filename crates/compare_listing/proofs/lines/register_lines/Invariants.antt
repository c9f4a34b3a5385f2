-- `lines::register_lines`: what was written and the lines of the registers that are left are all lines.
use Rattle.adv7194_compare.specs.Differences.{register_differs}
use Rattle.compare_fields.proofs.LineLaws.{Lining}
use Rattle.compare_listing.specs.Widths.{register_width}
use Rattle.compare_listing.specs.CompareText.{register_line}
use Rattle.compare_listing.proofs.lines.register_lines.Given as goal

abbrev pub invariant-loop-register : goal.invariant-loop-register
invariant-loop-register l =
    Lining (register_differs l.a l.b) (register_line l.a l.b) 0 54 register_width l.initial.line l.at l.line l.place l.register
