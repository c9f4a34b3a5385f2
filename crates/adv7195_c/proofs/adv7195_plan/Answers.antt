-- `adv7195_plan`: what the library's planning promises of its answer holds of the numbers.
use Rattle.std.proofs.Common.{sym}
use mathlib.Core.Path.{subst}
use Rattle.adv7195_c.proofs.Promises.{Promises, promised}
use Rattle.adv7195_c.proofs.adv7195_plan.Goals as goal

pub returns : goal.returns
returns c =
    let a = c.args in
    subst (Promises a.image.now a.settings.now a.address a.plan.now c.plan.new.plan) (sym c.plan_answer.ensures.answer)
    (promised a.image.now a.settings.now a.address a.plan.now c.plan.new.plan c.plan.result c.plan.ensures)
