-- `put_lines` is a walk that writes the line of each transaction passed.
use Rattle.plan_listing.proofs.WalkLaws.{Listing}
use Rattle.plan_listing.proofs.put_lines.Given as goal

abbrev pub invariant-loop-t : goal.invariant-loop-t
invariant-loop-t l = Listing l.initial.out l.at l.plan l.out l.cursor l.end

abbrev pub decreases-loop-t : goal.decreases-loop-t
decreases-loop-t l = l.cursor.left
