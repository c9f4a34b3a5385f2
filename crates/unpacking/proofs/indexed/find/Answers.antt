-- What `find` remembers of the walk is what the plan has at the index.
use Rattle.std.proofs.Common.{sym, ap, ◌∙◌, arith, List}
use Rattle.std.proofs.lemmas.Result.{err_from_is_err_and}
use Rattle.refusals.specs.Refusal.{Judged}
use Rattle.bus.specs.Transactions.{Transaction}
use Rattle.unpacking.specs.Indexed.{looked_up}
use Rattle.unpacking.proofs.StepLaws.{found_step, last_step, faulty_step}
use Rattle.unpacking.proofs.Walking.{walk_ends, walk_fails}
use Rattle.unpacking.proofs.IndexLaws.{looking_begins, looking_here, looking_on}
use Rattle.unpacking.proofs.indexed.find.Goals as goal
use Rattle.unpacking.proofs.indexed.find.Goals.{then-i-index, else-i-index}

pub loop-transaction-init : goal.loop-transaction-init
loop-transaction-init c =
    looking_begins c.args.plan.now c.args.order c.args.index c.begin-cursor.result c.begin-cursor.ensures.answer (λ i. (c.type_inv.plan i).fits)

pub returns-in_err-transaction : goal.returns-in_err-transaction
returns-in_err-transaction c =
    let p = err_from_is_err_and c.from_residual.result c.from_residual.ensures.1 in
    let e = walk_fails c.loop-transaction.invariant.passed.walked (faulty_step c.args.plan.now c.loop-transaction.cursor c.in_err-transaction.ensures.answer) in
    rw (p.1, p.2) (record { answer = sym (ap (λ (j : Judged (List Transaction)). looked_up j c.args.index) e); placed = tt })

pub loop-transaction-smaller : goal.loop-transaction-smaller
loop-transaction-smaller c = omega (arith, (found_step c.args.plan.now c.loop-transaction.cursor c.in_ok-transaction.ensures.answer c.in-Some.is).left)

pub loop-transaction-preserved : goal.loop-transaction-preserved
loop-transaction-preserved c =
    let k = c.loop-transaction.invariant in
    let g = found_step c.args.plan.now c.loop-transaction.cursor c.in_ok-transaction.ensures.answer c.in-Some.is in
    elim c.if-i-index.branch [
      | then-i-index w ↦ rw w.found-is (looking_here k c.in-Some.transaction g w.if-i-index.true)
      | else-i-index w ↦ rw w.found-is (looking_on k c.in-Some.transaction g w.if-i-index.false)
    ]

pub returns : goal.returns
returns c =
    let k = c.loop-transaction.invariant in
    let e = walk_ends k.passed.walked (last_step c.args.plan.now c.loop-transaction.cursor c.in_ok-transaction.ensures.answer c.in_default.is) in
    record { answer = k.is ∙ sym (ap (λ (j : Judged (List Transaction)). looked_up j c.args.index) e); placed = k.placed }
