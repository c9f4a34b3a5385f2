-- The list's transactions from one on are left, and the map of the registers that they touch.
use Rattle.std.proofs.Common.{◌-◌, length}
use Rattle.planning.proofs.RoundLaws.{Packing}
use Rattle.planning.proofs.plan.pack_spans.Given as goal

abbrev pub invariant-loop-rest : goal.invariant-loop-rest
invariant-loop-rest l = Packing l.initial.plan l.fn.first l.taken l.goes l.wanted l.plan l.pending l.rest l.from

abbrev pub decreases-loop-rest : goal.decreases-loop-rest
decreases-loop-rest l = length l.wanted - l.from
