-- What is answered and left of the registers at each step of the walk.
use Rattle.std.proofs.Common.{false, sym, ◌∙◌, arith}
use Rattle.std.proofs.lemmas.Result.{err_from_is_err_and}
use Rattle.unpacking.specs.declared.steps.Order.TheVariants.{Any}
use Rattle.unpacking.proofs.StepLaws.{found_step, last_step, faulty_step}
use Rattle.unpacking.proofs.Writing.{writing_begins, as_many}
use Rattle.adv7195_playing.proofs.TurnLaws.{turns}
use Rattle.adv7195_playing.proofs.WrittenLaws.{fault_answered, end_answered, rule_answered, still_as_many, order_answered, written_on}
use Rattle.adv7195_playing.proofs.write_plan.Goals as goal

pub loop-found-init : goal.loop-found-init
loop-found-init c =
    writing_begins turns c.args.plan.now Any false c.args.registers.now c.begin-cursor.result c.begin-cursor.ensures.answer (λ i. (c.type_inv.plan i).fits)

pub returns-in_err-found : goal.returns-in_err-found
returns-in_err-found c =
    let p = err_from_is_err_and c.from_residual.result c.from_residual.ensures.1 in
    let a = fault_answered c.loop-found.invariant (faulty_step c.args.plan.now c.loop-found.cursor c.in_err-found.ensures.answer) in
    rw (p.1, p.2) (record { answer = a.0; memory = a.1 })

pub returns-then-not-keeps_rules : goal.returns-then-not-keeps_rules
returns-then-not-keeps_rules c =
    let g = found_step c.args.plan.now c.loop-found.cursor c.in_ok-found.ensures.answer c.in-Some.is in
    let a = rule_answered c.loop-found.invariant c.requires g (sym c.keeps_rules.ensures.answer ∙ c.if-not-keeps_rules.true) in
    record { answer = a.0; memory = a.1 }

pub bounds-registers-3 : goal.bounds-registers-3
bounds-registers-3 c = omega (arith, as_many c.loop-found.invariant, c.requires)

pub bounds-registers-3-in-Some : goal.bounds-registers-3-in-Some
bounds-registers-3-in-Some c =
    let g = found_step c.args.plan.now c.loop-found.cursor c.in_ok-found.ensures.answer c.in-Some.is in
    let k = sym c.keeps_rules.ensures.answer ∙ c.if-not-keeps_rules.false in
    omega (arith, still_as_many c.loop-found.invariant c.requires g k c.copy_data.ensures.memory, c.requires)

pub prepared_after-prepared_now-requires : goal.prepared_after-prepared_now-requires
prepared_after-prepared_now-requires c =
    let g = found_step c.args.plan.now c.loop-found.cursor c.in_ok-found.ensures.answer c.in-Some.is in
    let k = sym c.keeps_rules.ensures.answer ∙ c.if-not-keeps_rules.false in
    still_as_many c.loop-found.invariant c.requires g k c.copy_data.ensures.memory ∙ c.requires

pub returns-then-flipped-prepared : goal.returns-then-flipped-prepared
returns-then-flipped-prepared c =
    let g = found_step c.args.plan.now c.loop-found.cursor c.in_ok-found.ensures.answer c.in-Some.is in
    let k = sym c.keeps_rules.ensures.answer ∙ c.if-not-keeps_rules.false in
    let a =
    order_answered c.loop-found.invariant c.requires g k c.copy_data.ensures.memory c.flips-flipped.ensures.answer c.if-flipped-prepared.true in
    record { answer = a.0; memory = a.1 }

pub overflow_add-transactions : goal.overflow_add-transactions
overflow_add-transactions c = omega (arith, c.loop-found.invariant.counts, c.loop-found.invariant.walked.few)

pub loop-found-smaller : goal.loop-found-smaller
loop-found-smaller c = omega (arith, (found_step c.args.plan.now c.loop-found.cursor c.in_ok-found.ensures.answer c.in-Some.is).left)

pub loop-found-preserved : goal.loop-found-preserved
loop-found-preserved c =
    let g = found_step c.args.plan.now c.loop-found.cursor c.in_ok-found.ensures.answer c.in-Some.is in
    let k = sym c.keeps_rules.ensures.answer ∙ c.if-not-keeps_rules.false in
    written_on c.loop-found.invariant c.requires g k c.copy_data.ensures.memory c.flips-flipped.ensures.answer c.if-flipped-prepared.false
    c.prepared_after-prepared_now.ensures.answer

pub returns : goal.returns
returns c =
    let a = end_answered c.loop-found.invariant c.requires (last_step c.args.plan.now c.loop-found.cursor c.in_ok-found.ensures.answer c.in_default.is) in
    record { answer = a.0; memory = a.1 }
