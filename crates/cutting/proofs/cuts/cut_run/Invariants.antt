-- Each round is the plan's next transaction.
use Rattle.std.proofs.Common.{◌-◌}
use Rattle.cutting.proofs.CutLaws.{Cut}
use Rattle.cutting.proofs.cuts.cut_run.Given as goal

abbrev pub invariant-loop-at : goal.invariant-loop-at
invariant-loop-at l = Cut l.needed l.held l.limit l.first l.end l.fn.spans.taken l.fn.spans.starts l.cut.taken l.cut.starts l.at

abbrev pub decreases-loop-at : goal.decreases-loop-at
decreases-loop-at l = l.end - l.at
