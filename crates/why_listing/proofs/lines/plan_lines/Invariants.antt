-- `lines::plan_lines`: the transactions passed, and the lines of each written.
use Rattle.why_lines.proofs.CheckLaws.{house_reason}
use Rattle.why_listing.proofs.WalkLaws.{Listing}
use Rattle.why_listing.proofs.lines.plan_lines.Given as goal

abbrev pub invariant-loop-t : goal.invariant-loop-t
invariant-loop-t l = Listing (house_reason l.image) l.initial.line l.at l.plan l.line l.cursor l.place

abbrev pub decreases-loop-t : goal.decreases-loop-t
decreases-loop-t l = l.cursor.left
