-- The lowest candidates go while they weigh as much or more.
use Rattle.std.proofs.Common.{get_or}
use Rattle.cutting.proofs.CandidateLaws.{Kept}
use Rattle.cutting.proofs.cuts.with_candidate.Given as goal

abbrev pub invariant-loop-kept : goal.invariant-loop-kept
invariant-loop-kept l = Kept (λ i. get_or l.weights i 0) l.candidates l.at l.kept

abbrev pub decreases-loop-kept : goal.decreases-loop-kept
decreases-loop-kept l = l.kept
