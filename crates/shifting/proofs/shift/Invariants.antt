use Rattle.std.proofs.Common.{◌≡◌, take}
use Rattle.std.proofs.lemmas.List.Edits.{sets}
use Rattle.shifting.specs.Shifted.{shifted, last_from}
use Rattle.shifting.proofs.shift.Given as goal

abbrev pub invariant-loop-i : goal.invariant-loop-i
invariant-loop-i l = record {
  wrote : l.to ≡ sets l.initial.to l.at (shifted l.held l.before (take l.i l.from));
  last_is : l.last ≡ last_from l.before (take l.i l.from);
}
