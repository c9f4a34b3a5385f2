-- `differing`: one register more, below the others.
use Rattle.std.proofs.Common.{refl, arith}
use Rattle.planning.proofs.DifferLaws.{above_next}
use Rattle.planning.proofs.maps.differing.Goals as goal

pub loop-i-preserved : goal.loop-i-preserved
loop-i-preserved c = above_next _ c.from.result (omega arith) c.loop-i.invariant c.from.ensures refl
