-- The tests that led to each answer decide the verdict, and all else follows from it.
use Rattle.std.proofs.Common.{length, sym, ◌∙◌}
use Rattle.adv7194_captions.proofs.RowLaws.{wrong_address, wrong_pairs, right_pairs, refused_left, packed_left_lem}
use Rattle.adv7194_caption_planning.proofs.Clauses.{clauses}
use Rattle.adv7194_caption_planning.proofs.plan_captions.Goals as goal

pub returns-then-not-address_right : goal.returns-then-not-address_right
returns-then-not-address_right c =
    let a = c.args in
    let e =
    wrong_address a.extended.now a.ordinary.now a.address (length a.plan.now) (sym c.address_right.ensures.answer ∙ c.if-not-address_right.true) in
    let p =
    clauses a.extended.now a.ordinary.now a.address a.plan.now a.plan.now _ (sym e)
    (sym (refused_left a.extended.now a.ordinary.now a.address a.plan.now _ _ e)) in
    rw c.at.ensures.answer (record { answer = p.answer; memory = p.memory; exactly = p.exactly; played = p.played; room = p.room })

pub returns-then-not-pairs_right : goal.returns-then-not-pairs_right
returns-then-not-pairs_right c =
    let a = c.args in
    let e =
    wrong_pairs a.extended.now a.ordinary.now a.address (length a.plan.now) (sym c.address_right.ensures.answer ∙ c.if-not-address_right.false)
    (sym c.pairs_right.ensures.answer ∙ c.if-not-pairs_right.true) in
    let p =
    clauses a.extended.now a.ordinary.now a.address a.plan.now a.plan.now _ (sym e)
    (sym (refused_left a.extended.now a.ordinary.now a.address a.plan.now _ _ e)) in
    rw c.at-then-not-pairs_right.ensures.answer (record { answer = p.answer; memory = p.memory; exactly = p.exactly; played = p.played; room = p.room })

pub returns : goal.returns
returns c =
    let a = c.args in
    let e = sym c.address_right.ensures.answer ∙ c.if-not-address_right.false in
    let f = sym c.pairs_right.ensures.answer ∙ c.if-not-pairs_right.false in
    let p =
    clauses a.extended.now a.ordinary.now a.address a.plan.now _ _
    (c.plan_pairs.ensures.answer ∙ sym (right_pairs a.extended.now a.ordinary.now a.address (length a.plan.now) e f))
    (c.plan_pairs.ensures.memory ∙ sym (packed_left_lem a.extended.now a.ordinary.now a.address a.plan.now e f)) in
    record { answer = p.answer; memory = p.memory; exactly = p.exactly; played = p.played; room = p.room }
