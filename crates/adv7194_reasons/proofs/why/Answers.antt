-- `why`: the tests that led to each answer decide the verdict, and that its reason is true follows from it.
use Rattle.std.proofs.Common.{sym, ap, ◌∙◌}
use mathlib.Core.Path.{subst}
use Rattle.std.proofs.lemmas.Result.{err_from_is_err_and}
use Rattle.refusals.specs.Refusal.{number_of}
use Rattle.refusals.specs.Verdict.{Verdict, good, refused_at, after}
use Rattle.adv7194_bus.specs.Kind.{board_address}
use Rattle.adv7194_bus.specs.Board.{board_of}
use Rattle.adv7194_least.specs.Aim.{Aim}
use Rattle.adv7194_least.specs.Plan.{plan_of}
use Rattle.adv7194_least.proofs.WantedChange.{settings_change}
use Rattle.adv7194_planning.specs.Rows.{list_of}
use Rattle.adv7194_planning.proofs.Checked.{decided, passed, aim_is}
use Rattle.adv7194_reasons.specs.Reasons.{reason_of}
use Rattle.adv7194_reasons.specs.Known.{Answered}
use Rattle.adv7194_reasons.specs.Why.{reason_in}
use Rattle.adv7194_reasons.proofs.SomeAnswer.{settings_answer}
use Rattle.adv7194_reasons.proofs.WhyLaws.{why_length, why_checks, clauses}
use Rattle.adv7194_reasons.proofs.why.Goals as goal

pub returns-then-image : goal.returns-then-image
returns-then-image c =
    let a = c.args in
    let b = board_of a.image.now a.known in
    rw c.at.ensures.answer
    (clauses b a.numbers.now a.limit a.register (λ i. (c.type_inv.image i).fits)
    (sym (why_length b a.numbers.now a.limit a.register c.if-image.true)))

pub returns-in_err-check : goal.returns-in_err-check
returns-in_err-check c =
    let a = c.args in
    let b = board_of a.image.now a.known in
    let e = c.in_err-check.field-0.0 in
    let p = err_from_is_err_and c.from_residual.result c.from_residual.ensures.1 in
    let v =
    decided c.board_of-board.result a.image.now a.known a.numbers.now a.limit c.board_of-board.ensures.answer board_address 0
    (refused_at (number_of e.refusal) e.field) (c.in_err-check.ensures.answer board_address 0) in
    rw (p.1, p.2)
    (clauses b a.numbers.now a.limit a.register (λ i. (c.type_inv.image i).fits)
    (sym
    (why_checks b a.numbers.now a.limit a.register c.if-image.false
    ∙ ap (λ (x : Verdict (Unit {0})). after x (good (reason_in b a.numbers.now a.limit a.register))) (sym v))))

pub fixed_registers-requires : goal.fixed_registers-requires
fixed_registers-requires c =
    let a = c.args in
    (passed c.board_of-board.result a.image.now a.known a.numbers.now a.limit c.board_of-board.ensures.answer c.in_ok-check.ensures.answer).passing

pub reason-requires : goal.reason-requires
reason-requires c =
    let a = c.args in
    let b = board_of a.image.now a.known in
    let is = c.board_of-board.ensures.answer in
    let good = c.in_ok-check.ensures.answer in
    let limited = (passed c.board_of-board.result a.image.now a.known a.numbers.now a.limit is good).limited in
    let aim =
    aim_is c.board_of-board.result a.image.now a.known a.numbers.now a.limit is good c.check.new.wanted c.fixed_registers.result
    c.check.ensures.memory c.fixed_registers.ensures.answer in
    subst (λ (x : Aim). Answered x a.register) (sym aim)
    (record {
      change = settings_change b a.numbers.now a.limit (record { size = c.if-image.false; bytes = λ i. (c.type_inv.image i).fits }) limited;
      answer =
          (settings_answer b a.numbers.now a.limit a.register (record { size = c.if-image.false; bytes = λ i. (c.type_inv.image i).fits }) limited).here;
    })

pub returns : goal.returns
unfolding list_of
returns c =
    let a = c.args in
    let b = board_of a.image.now a.known in
    let is = c.board_of-board.ensures.answer in
    let aim =
    aim_is c.board_of-board.result a.image.now a.known a.numbers.now a.limit is c.in_ok-check.ensures.answer c.check.new.wanted
    c.fixed_registers.result c.check.ensures.memory c.fixed_registers.ensures.answer in
    let v =
    decided c.board_of-board.result a.image.now a.known a.numbers.now a.limit is board_address 0 (good tt) (c.in_ok-check.ensures.answer board_address 0) in
    clauses b a.numbers.now a.limit a.register (λ i. (c.type_inv.image i).fits)
    (ap good (c.reason.ensures.answer ∙ ap (λ (x : Aim). reason_of x (plan_of x) a.register) aim)
    ∙ sym
    (why_checks b a.numbers.now a.limit a.register c.if-image.false
    ∙ ap (λ (x : Verdict (Unit {0})). after x (good (reason_in b a.numbers.now a.limit a.register))) (sym v)))
