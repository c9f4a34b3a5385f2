-- Of the starts below the next one the best was found.
use Rattle.std.proofs.Common.{List, ℕ, ◌≤◌, ◌<◌}
use Rattle.adv7195_planning.specs.Told.{Told}
use Rattle.adv7195_planning.proofs.StartLaws.{Best}
use Rattle.adv7195_planning.proofs.start.preparing_start.Given as goal

abbrev pub invariant-loop-a : goal.invariant-loop-a
invariant-loop-a l = record {
  from : 4 ≤ l.best;
  to : l.best < l.a;
  found : (image wanted : List ℕ) → Told image wanted l.changed l.restored → Best image wanted l.a l.best l.least;
}
