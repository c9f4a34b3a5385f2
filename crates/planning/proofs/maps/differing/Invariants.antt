-- From the last register down, the map holds the registers passed.
use Rattle.std.proofs.Common.{length}
use Rattle.planning.specs.Registers.{differs_in}
use Rattle.planning.proofs.DifferLaws.{Above}
use Rattle.planning.proofs.maps.differing.Given as goal

abbrev pub invariant-loop-i : goal.invariant-loop-i
invariant-loop-i l = Above (length l.wanted) (differs_in l.masks l.found l.wanted) l.m l.i
