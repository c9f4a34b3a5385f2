-- `adv7194_plan_captions`: what the library's planning of captions promises of its answer holds of the numbers.
use Rattle.std.proofs.Common.{sym}
use mathlib.Core.Path.{subst}
use Rattle.adv7194_c.proofs.CaptionPromises.{CaptionPromises, captions_promised}
use Rattle.adv7194_c.proofs.adv7194_plan_captions.Goals as goal

pub returns : goal.returns
returns c =
    let a = c.args in
    let e = c.plan_captions.ensures in
    subst (CaptionPromises a.extended.now a.ordinary.now a.address a.plan.now c.plan_captions.new.plan) (sym c.plan_answer.ensures.answer)
    (captions_promised a.extended.now a.ordinary.now a.address a.plan.now c.plan_captions.new.plan c.plan_captions.result
    (record { answer = e.answer; memory = e.memory; exactly = e.exactly; played = e.played; room = e.room }))
