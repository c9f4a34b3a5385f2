-- `nearest::next_above`: the next register above is among those still to be looked at.
use Rattle.std.proofs.Common.{◌≡◌}
use Rattle.bits.specs.Maps.{has}
use Rattle.adv7194_reasons.specs.Reasons.{next_above}
use Rattle.adv7194_reasons.proofs.TurnLaws.{next_up}
use Rattle.adv7194_reasons.proofs.nearest.next_above.Given as goal

abbrev pub invariant-loop-at : goal.invariant-loop-at
invariant-loop-at l = next_up (has l.map) l.at ≡ next_above (has l.map) l.register
