-- What the check finds decides between the refusal and the text.
use Rattle.std.proofs.Common.{refl, sym, ap}
use Rattle.std.proofs.lemmas.Result.{err_from_is_err_and}
use Rattle.refusals.specs.Refusal.{accepted}
use Rattle.unpacking.specs.Unpacking.{unpack}
use Rattle.unpacking.proofs.PlanLaws.{accepted-plan, listed-length, refused-list}
use Rattle.plan_listing.proofs.list_plan.Goals as goal

pub returns-in_err-transactions : goal.returns-in_err-transactions
returns-in_err-transactions c =
    let a = c.args in
    let e = refused-list (unpack a.plan.now) _ (sym c.in_err-transactions.ensures.answer) in
    let p = err_from_is_err_and c.from_residual.result c.from_residual.ensures.1 in
    rw (p.1, p.2, e) (record { answer = refl; memory = refl })

pub put_plan-requires : goal.put_plan-requires
put_plan-requires c =
    let e = sym c.in_ok-transactions.ensures.answer in
    (accepted-plan c.args.plan.now _ e, listed-length (unpack c.args.plan.now) _ e)

pub returns : goal.returns
returns c =
    let list = accepted-plan c.args.plan.now _ (sym c.in_ok-transactions.ensures.answer) in
    rw list (record { answer = ap accepted c.put_plan.ensures.answer; memory = c.put_plan.ensures.memory })
