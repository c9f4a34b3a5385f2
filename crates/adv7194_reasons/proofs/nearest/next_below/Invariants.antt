-- `nearest::next_below`: the next register below is among those still to be looked at.
use Rattle.std.proofs.Common.{◌≡◌}
use Rattle.bits.specs.Maps.{has}
use Rattle.adv7194_reasons.specs.Reasons.{next_below}
use Rattle.adv7194_reasons.proofs.nearest.next_below.Given as goal

abbrev pub invariant-loop-at : goal.invariant-loop-at
invariant-loop-at l = next_below (has l.map) l.at ≡ next_below (has l.map) l.register
