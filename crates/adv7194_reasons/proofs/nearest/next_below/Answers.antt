-- `nearest::next_below`: a register that is in the map is the next one; otherwise the next is among those below it.
use Rattle.std.proofs.Common.{sym, ◌∙◌, arith}
use Rattle.bits.specs.Maps.{has}
use Rattle.adv7194_reasons.proofs.TurnLaws.{down_here, down_next, down_none}
use Rattle.adv7194_reasons.proofs.nearest.next_below.Goals as goal

pub returns-then-has : goal.returns-then-has
returns-then-has c = record {
  answer = down_here (has c.args.map) c.loop-at.at (omega arith) (sym c.has.ensures.answer ∙ c.if-has.true) ∙ c.loop-at.invariant;
}

pub loop-at-preserved : goal.loop-at-preserved
loop-at-preserved c = down_next (has c.args.map) c.loop-at.at (omega arith) (sym c.has.ensures.answer ∙ c.if-has.false) ∙ c.loop-at.invariant

pub returns : goal.returns
returns c = record { answer = down_none (has c.args.map) c.loop-at.at (omega arith) ∙ c.loop-at.invariant }
