-- What is answered and left of the board at each step of the walk.
use Rattle.std.proofs.Common.{Bool, not, cond, ◌&&◌, sym, ap, ◌∙◌, eqb, bit_or, arith}
use Rattle.std.proofs.lemmas.Result.{err_from_is_err_and}
use Rattle.bus.specs.Known.{marks}
use Rattle.bus.proofs.KnownLaws.{marks-joined}
use Rattle.unpacking.specs.declared.steps.Order.TheVariants.{Ascending}
use Rattle.unpacking.proofs.StepLaws.{found_step, last_step, faulty_step}
use Rattle.unpacking.proofs.Writing.{writing_begins}
use Rattle.adv7194_playing.proofs.KindLaws.{turns, not_touched, is-touched}
use Rattle.adv7194_playing.proofs.WrittenLaws.{fault_answered, empty_answered, end_answered, header_answered, data_there, data_answered, written_on}
use Rattle.adv7194_playing.proofs.write_plan.Goals as goal

pub loop-found-init : goal.loop-found-init
loop-found-init c =
    let a = c.args in
    writing_begins (turns a.kind) a.plan.now Ascending a.known a.registers.now c.begin-cursor.result c.begin-cursor.ensures.answer
    (λ i. (c.type_inv.plan i).fits)

pub returns-in_err-found : goal.returns-in_err-found
returns-in_err-found c =
    let p = err_from_is_err_and c.from_residual.result c.from_residual.ensures.1 in
    let e = faulty_step c.args.plan.now c.loop-found.cursor c.in_err-found.ensures.answer in
    let a = fault_answered c.args.kind c.loop-found.invariant c.args.known e in
    rw (p.1, p.2) (record { answer = a.0; memory = a.1 })

pub returns-then-written-eq-NONE : goal.returns-then-written-eq-NONE
returns-then-written-eq-NONE c =
    let g = found_step c.args.plan.now c.loop-found.cursor c.in_ok-found.ensures.answer c.in-Some.is in
    let e = not_touched _ _ _ g.some (sym c.touched-written.ensures.answer ∙ c.if-written-eq-NONE.true) in
    let a = header_answered c.args.kind c.loop-found.invariant g c.args.known e in
    record { answer = a.0; memory = a.1 }

pub takes_data-requires : goal.takes_data-requires
takes_data-requires c =
    let g = found_step c.args.plan.now c.loop-found.cursor c.in_ok-found.ensures.answer c.in-Some.is in
    let e = is-touched _ _ _ (λ z. c.if-written-eq-NONE.false (c.touched-written.ensures.answer ∙ z)) in
    data_there c.args.kind c.loop-found.invariant g c.requires e c.copy_data.ensures.memory

pub returns-then-not-takes_data : goal.returns-then-not-takes_data
returns-then-not-takes_data c =
    let g = found_step c.args.plan.now c.loop-found.cursor c.in_ok-found.ensures.answer c.in-Some.is in
    let e = is-touched _ _ _ (λ z. c.if-written-eq-NONE.false (c.touched-written.ensures.answer ∙ z)) in
    let a =
    data_answered c.args.kind c.loop-found.invariant g c.requires e c.copy_data.ensures.memory c.args.known
    (sym c.takes_data.ensures.answer ∙ c.if-not-takes_data.true) in
    record { answer = a.0; memory = a.1 }

pub overflow_add-transactions : goal.overflow_add-transactions
overflow_add-transactions c = omega (arith, c.loop-found.invariant.counts, c.loop-found.invariant.walked.few)

pub loop-found-smaller : goal.loop-found-smaller
loop-found-smaller c = omega (arith, (found_step c.args.plan.now c.loop-found.cursor c.in_ok-found.ensures.answer c.in-Some.is).left)

pub loop-found-preserved : goal.loop-found-preserved
loop-found-preserved c =
    let t = c.in-Some.found in
    let g = found_step c.args.plan.now c.loop-found.cursor c.in_ok-found.ensures.answer c.in-Some.is in
    let e = is-touched _ _ _ (λ z. c.if-written-eq-NONE.false (c.touched-written.ensures.answer ∙ z)) in
    let joined =
    ap (bit_or c.loop-found.map) (c.touched-written.ensures.answer ∙ ap (λ (b : Bool). cond b (marks 0 t.subaddress t.count) 0) e)
    ∙ sym (marks-joined t.count t.subaddress c.loop-found.map) in
    written_on c.args.kind c.loop-found.invariant g c.requires e c.copy_data.ensures.memory
    (sym c.takes_data.ensures.answer ∙ c.if-not-takes_data.false) joined

pub returns-then-transactions-needs_transaction : goal.returns-then-transactions-needs_transaction
returns-then-transactions-needs_transaction c =
    let n = c.loop-found.transactions in
    let e = last_step c.args.plan.now c.loop-found.cursor c.in_ok-found.ensures.answer c.in_default.is in
    let f =
    ap not (sym (ap (λ (b : Bool). eqb n 0 && b) c.needs_transaction.ensures.answer) ∙ c.if-transactions-needs_transaction.true) in
    let a = empty_answered c.args.kind c.loop-found.invariant c.args.known e f in
    record { answer = a.0; memory = a.1 }

pub returns : goal.returns
returns c =
    let n = c.loop-found.transactions in
    let e = last_step c.args.plan.now c.loop-found.cursor c.in_ok-found.ensures.answer c.in_default.is in
    let f =
    ap not (sym (ap (λ (b : Bool). eqb n 0 && b) c.needs_transaction.ensures.answer) ∙ c.if-transactions-needs_transaction.false) in
    let a = end_answered c.args.kind c.loop-found.invariant e f in
    record { answer = a.0; memory = a.1 }
