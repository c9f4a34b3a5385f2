-- From the run's last register down, a table of what it weighs to end before each, and the candidates.
use Rattle.cutting.proofs.TableLaws.{Table}
use Rattle.cutting.proofs.cuts.run_ends.Given as goal

abbrev pub invariant-loop-at : goal.invariant-loop-at
invariant-loop-at l = Table l.needed l.held l.limit l.end l.first l.ends l.weights l.rest l.candidates l.at
