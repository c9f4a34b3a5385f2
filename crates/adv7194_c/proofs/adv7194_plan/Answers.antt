-- `adv7194_plan`: what the library's planning promises of its answer holds of the numbers.
use Rattle.std.proofs.Common.{sym}
use mathlib.Core.Path.{subst}
use Rattle.adv7194_bus.specs.Board.{board_of}
use Rattle.adv7194_c.proofs.Promises.{Promises, promised}
use Rattle.adv7194_c.proofs.adv7194_plan.Goals as goal

pub returns : goal.returns
returns c =
    let a = c.args in
    let board = board_of a.image.now a.known in
    subst (Promises board a.settings.now a.address a.limit a.plan.now c.plan.new.plan) (sym c.plan_answer.ensures.answer)
    (promised board a.settings.now a.address a.limit a.plan.now c.plan.new.plan c.plan.result c.plan.ensures)
