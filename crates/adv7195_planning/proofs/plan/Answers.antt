-- The tests that led to each answer decide the verdict, and demands 1 to 3 follow from it.
use Rattle.std.proofs.Common.{List, ℕ, length, sym, ap, ◌∙◌, subst}
use Rattle.std.proofs.lemmas.Result.{err_from_is_err_and}
use Rattle.refusals.specs.Verdict.{Verdict, after}
use Rattle.bus.specs.Transactions.{Transaction}
use Rattle.planning.specs.Plan.{packing_of, packed_left, plan_after}
use Rattle.adv7195_settings.specs.Wanted.{wanted_by}
use Rattle.adv7195_least.specs.Reaching.{Change}
use Rattle.adv7195_least.specs.Plan.{plan_of}
use Rattle.adv7195_planning.specs.Planning.{list_of}
use Rattle.adv7195_planning.proofs.CaseLaws.{wrong_length, wrong_address, wrong_count, right-count}
use Rattle.adv7195_planning.proofs.Clauses.{change, clauses, refusal}
use Rattle.adv7195_planning.proofs.plan.Goals as goal

pub returns-then-image : goal.returns-then-image
returns-then-image c =
    let a = c.args in
    rw c.at.ensures.answer
    (refusal a.image.now a.numbers.now (λ r. (c.type_inv.image r).fits) a.address a.plan.now
    (wrong_length a.image.now a.numbers.now a.address (length a.plan.now) c.if-image.true))

pub returns-then-not-address_right : goal.returns-then-not-address_right
returns-then-not-address_right c =
    let a = c.args in
    rw c.at-then-not-address_right.ensures.answer
    (refusal a.image.now a.numbers.now (λ r. (c.type_inv.image r).fits) a.address a.plan.now
    (wrong_address a.image.now a.numbers.now a.address (length a.plan.now) c.if-image.false (sym c.address_right.ensures.answer ∙ c.if-not-address_right.true)))

pub returns-then-numbers-ne-NUMBERS : goal.returns-then-numbers-ne-NUMBERS
returns-then-numbers-ne-NUMBERS c =
    let a = c.args in
    rw c.at-then-numbers-ne-NUMBERS.ensures.answer
    (refusal a.image.now a.numbers.now (λ r. (c.type_inv.image r).fits) a.address a.plan.now
    (wrong_count a.image.now a.numbers.now a.address (length a.plan.now) c.if-image.false (sym c.address_right.ensures.answer ∙ c.if-not-address_right.false)
    c.if-numbers-ne-NUMBERS.true))

pub returns-in_err-want : goal.returns-in_err-want
returns-in_err-want c =
    let a = c.args in
    let q = err_from_is_err_and c.from_residual.result c.from_residual.ensures.1 in
    let planned =
    right-count a.image.now a.numbers.now a.address (length a.plan.now) c.if-image.false
    (sym c.address_right.ensures.answer ∙ c.if-not-address_right.false) c.if-numbers-ne-NUMBERS.false
    ∙ ap (λ (v : Verdict (Unit {0})). after v (packing_of (list_of a.image.now a.numbers.now) (length a.plan.now))) (sym c.in_err-want.ensures.answer) in
    rw (q.1, q.2) (refusal a.image.now a.numbers.now (λ r. (c.type_inv.image r).fits) a.address a.plan.now planned)

pub plan_change-requires : goal.plan_change-requires
plan_change-requires c =
    let a = c.args in
    let wanted = c.in_ok-want.ensures.memory ∙ ap (λ (l : List ℕ). wanted_by l a.numbers.now) c.copied-wanted.ensures.answer in
    subst (Change a.image.now) (sym wanted) (change a.image.now a.numbers.now (λ r. (c.type_inv.image r).fits) c.if-image.false)

pub returns : goal.returns
unfolding list_of
returns c =
    let a = c.args in
    let room = length a.plan.now in
    let wanted = c.in_ok-want.ensures.memory ∙ ap (λ (l : List ℕ). wanted_by l a.numbers.now) c.copied-wanted.ensures.answer in
    let list = ap (plan_of a.image.now) wanted in
    let packed = c.plan_change.ensures.answer ∙ ap (λ (ts : List Transaction). packing_of ts room) list in
    let planned =
    right-count a.image.now a.numbers.now a.address room c.if-image.false (sym c.address_right.ensures.answer ∙ c.if-not-address_right.false)
    c.if-numbers-ne-NUMBERS.false
    ∙ ap (λ (v : Verdict (Unit {0})). after v (packing_of (list_of a.image.now a.numbers.now) room)) (sym c.in_ok-want.ensures.answer) in
    let answer = packed ∙ sym planned in
    clauses a.image.now a.numbers.now (λ r. (c.type_inv.image r).fits) a.address a.plan.now _ _ answer
    (c.plan_change.ensures.memory ∙ ap (λ (ts : List Transaction). plan_after ts a.plan.now) list
    ∙ sym (ap (packed_left (list_of a.image.now a.numbers.now) a.plan.now) packed)
    ∙ ap (packed_left (list_of a.image.now a.numbers.now) a.plan.now) answer)
