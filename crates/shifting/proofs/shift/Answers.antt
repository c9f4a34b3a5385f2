-- With each turn one byte more is shifted.
use Rattle.std.proofs.Common.{refl}
use Rattle.shifting.specs.Shifted.{shifted}
use Rattle.shifting.proofs.ShiftedLaws.{one_more, last_more}
use Rattle.shifting.proofs.shift.Goals as goal

pub loop-i-init : goal.loop-i-init
unfolding shifted
loop-i-init c = record { wrote = refl; last_is = refl }

pub loop-i-preserved : goal.loop-i-preserved
loop-i-preserved c =
    let l = c.loop-i in
    let a = c.args in
    record {
      wrote = rw (c.between.ensures.answer, l.invariant.wrote, l.invariant.last_is) (one_more a.to.now a.at a.held a.before l.i a.from.now c.loop-i-test.true);
      last_is = last_more a.before l.i a.from.now c.loop-i-test.true;
    }
