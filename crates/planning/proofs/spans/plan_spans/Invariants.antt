-- The transactions of the runs passed were found.
use Rattle.std.proofs.Common.{◌-◌}
use Rattle.planning.proofs.FoundLaws.{Found}
use Rattle.planning.proofs.spans.plan_spans.Given as goal

abbrev pub invariant-loop-rest : goal.invariant-loop-rest
invariant-loop-rest l = Found l.needed l.allowed l.held l.limit l.initial.rest l.found.taken l.found.starts l.rest l.from

abbrev pub decreases-loop-rest : goal.decreases-loop-rest
decreases-loop-rest l = 64 - l.from
