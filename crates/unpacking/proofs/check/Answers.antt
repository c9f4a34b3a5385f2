-- What `check` answers is what the steps say of the rest of the plan.
use Rattle.std.proofs.Common.{sym, ap, ◌∙◌, arith}
use Rattle.std.proofs.lemmas.Result.{err_from_is_err_and}
use Rattle.refusals.specs.Refusal.{accepted}
use Rattle.unpacking.specs.declared.steps.Order.TheVariants.{Ascending}
use Rattle.unpacking.specs.Unpacking.{counted}
use Rattle.unpacking.proofs.StepLaws.{found_step, last_step, faulty_step}
use Rattle.unpacking.proofs.Walking.{passed_begins, passed_goes, walk_ends, walk_fails}
use Rattle.unpacking.proofs.check.Goals as goal

pub loop-transaction-init : goal.loop-transaction-init
loop-transaction-init c = passed_begins c.args.plan.now Ascending c.begin-cursor.result c.begin-cursor.ensures.answer (λ i. (c.type_inv.plan i).fits)

pub returns-in_err-transaction : goal.returns-in_err-transaction
returns-in_err-transaction c =
    let p = err_from_is_err_and c.from_residual.result c.from_residual.ensures.1 in
    let e = faulty_step c.args.plan.now c.loop-transaction.cursor c.in_err-transaction.ensures.answer in
    rw (p.1, p.2) (record { answer = sym (ap counted (walk_fails c.loop-transaction.invariant.walked e)) })

pub overflow_add-transactions : goal.overflow_add-transactions
overflow_add-transactions c = omega (arith, c.loop-transaction.invariant.counts, c.loop-transaction.invariant.walked.few)

pub loop-transaction-smaller : goal.loop-transaction-smaller
loop-transaction-smaller c = omega (arith, (found_step c.args.plan.now c.loop-transaction.cursor c.in_ok-transaction.ensures.answer c.in-Some.is).left)

pub loop-transaction-preserved : goal.loop-transaction-preserved
loop-transaction-preserved c =
    passed_goes c.loop-transaction.invariant (found_step c.args.plan.now c.loop-transaction.cursor c.in_ok-transaction.ensures.answer c.in-Some.is)

pub returns : goal.returns
returns c =
    let v = c.loop-transaction.invariant in
    let e = last_step c.args.plan.now c.loop-transaction.cursor c.in_ok-transaction.ensures.answer c.in_default.is in
    record { answer = ap accepted v.counts ∙ sym (ap counted (walk_ends v.walked e)) }
