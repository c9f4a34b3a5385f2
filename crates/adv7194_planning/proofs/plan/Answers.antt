-- `plan`: the tests that led to each answer decide the verdict, and demands 1 to 3 follow from it.
use Rattle.std.proofs.Common.{List, length, sym, ap, ◌∙◌}
use mathlib.Core.Path.{subst}
use Rattle.std.proofs.lemmas.Result.{err_from_is_err_and}
use Rattle.refusals.specs.Refusal.{number_of}
use Rattle.refusals.specs.Verdict.{Verdict, good, refused_at, after}
use Rattle.bus.specs.Transactions.{Transaction}
use Rattle.planning.specs.Plan.{packing_of, packed_left, plan_after}
use Rattle.adv7194_bus.specs.Board.{board_of}
use Rattle.adv7194_least.specs.Change.{Change}
use Rattle.adv7194_least.specs.Plan.{plan_of}
use Rattle.adv7194_least.proofs.WantedChange.{settings_change}
use Rattle.adv7194_planning.specs.Rows.{list_of}
use Rattle.adv7194_planning.proofs.CaseLaws.{wrong_length, wrong_address}
use Rattle.adv7194_planning.proofs.CheckLaws.{planning_is}
use Rattle.adv7194_planning.proofs.Checked.{decided, passed, aim_is}
use Rattle.adv7194_planning.proofs.Clauses.{clauses, refusal}
use Rattle.adv7194_planning.proofs.plan.Goals as goal

pub returns-then-image : goal.returns-then-image
returns-then-image c =
    let a = c.args in
    let b = board_of a.image.now a.known in
    rw c.at.ensures.answer
    (refusal b a.numbers.now a.limit (λ r. (c.type_inv.image r).fits) a.address a.plan.now 1 0
    (wrong_length b a.numbers.now a.address a.limit (length a.plan.now) c.if-image.true))

pub returns-then-not-address_right : goal.returns-then-not-address_right
returns-then-not-address_right c =
    let a = c.args in
    let b = board_of a.image.now a.known in
    rw c.at-then-not-address_right.ensures.answer
    (refusal b a.numbers.now a.limit (λ r. (c.type_inv.image r).fits) a.address a.plan.now 2 0
    (wrong_address b a.numbers.now a.address a.limit (length a.plan.now) c.if-image.false
    (sym c.address_right.ensures.answer ∙ c.if-not-address_right.true)))

pub returns-in_err-check : goal.returns-in_err-check
returns-in_err-check c =
    let a = c.args in
    let b = board_of a.image.now a.known in
    let e = c.in_err-check.field-0.0 in
    let room = length a.plan.now in
    let p = err_from_is_err_and c.from_residual.result c.from_residual.ensures.1 in
    let v =
    decided c.board_of-board.result a.image.now a.known a.numbers.now a.limit c.board_of-board.ensures.answer a.address room
    (refused_at (number_of e.refusal) e.field) (c.in_err-check.ensures.answer a.address room) in
    rw (p.1, p.2)
    (refusal b a.numbers.now a.limit (λ r. (c.type_inv.image r).fits) a.address a.plan.now (number_of e.refusal) e.field
    (planning_is b a.numbers.now a.address a.limit room c.if-image.false (sym c.address_right.ensures.answer ∙ c.if-not-address_right.false)
    ∙ ap (λ (x : Verdict (Unit {0})). after x (packing_of (list_of b a.numbers.now a.limit) room)) (sym v)))

pub fixed_registers-requires : goal.fixed_registers-requires
fixed_registers-requires c =
    let a = c.args in
    (passed c.board_of-board.result a.image.now a.known a.numbers.now a.limit c.board_of-board.ensures.answer c.in_ok-check.ensures.answer).passing

pub plan_change-requires : goal.plan_change-requires
plan_change-requires c =
    let a = c.args in
    let is = c.board_of-board.ensures.answer in
    let good = c.in_ok-check.ensures.answer in
    let aim =
    aim_is c.board_of-board.result a.image.now a.known a.numbers.now a.limit is good c.check.new.wanted c.fixed_registers.result
    c.check.ensures.memory c.fixed_registers.ensures.answer in
    subst Change (sym aim)
    (settings_change (board_of a.image.now a.known) a.numbers.now a.limit
    (record { size = c.if-image.false; bytes = λ r. (c.type_inv.image r).fits })
    (passed c.board_of-board.result a.image.now a.known a.numbers.now a.limit is good).limited)

pub returns : goal.returns
unfolding list_of
returns c =
    let a = c.args in
    let b = board_of a.image.now a.known in
    let plan = a.plan.now in
    let room = length plan in
    let is = c.board_of-board.ensures.answer in
    let list =
    ap plan_of
    (aim_is c.board_of-board.result a.image.now a.known a.numbers.now a.limit is c.in_ok-check.ensures.answer c.check.new.wanted
    c.fixed_registers.result c.check.ensures.memory c.fixed_registers.ensures.answer) in
    let v =
    decided c.board_of-board.result a.image.now a.known a.numbers.now a.limit is a.address room (good tt) (c.in_ok-check.ensures.answer a.address room) in
    let packed = c.plan_change.ensures.answer ∙ ap (λ (ts : List Transaction). packing_of ts room) list in
    let answer =
    packed
    ∙ sym
    (planning_is b a.numbers.now a.address a.limit room c.if-image.false (sym c.address_right.ensures.answer ∙ c.if-not-address_right.false)
    ∙ ap (λ (x : Verdict (Unit {0})). after x (packing_of (list_of b a.numbers.now a.limit) room)) (sym v)) in
    clauses b a.numbers.now a.limit (λ r. (c.type_inv.image r).fits) a.address plan _ _ answer
    (c.plan_change.ensures.memory
    ∙ ap (λ (ts : List Transaction). plan_after ts plan) list
    ∙ sym (ap (packed_left (list_of b a.numbers.now a.limit) plan) packed)
    ∙ ap (packed_left (list_of b a.numbers.now a.limit) plan) answer)
