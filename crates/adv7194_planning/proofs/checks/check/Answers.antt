-- `checks::check`: the tests that led to each answer decide the verdict.
use Rattle.std.proofs.Common.{sym, ap, ◌∙◌}
use Rattle.std.proofs.lemmas.Result.{err_from_is_err_and}
use Rattle.refusals.specs.Verdict.{Verdict, after}
use Rattle.adv7194_bus.specs.Board.{board_of}
use Rattle.adv7194_planning.proofs.CheckLaws.{unknown_verdict, check_limit, check_count, check_settings}
use Rattle.adv7194_planning.proofs.checks.check.Goals as goal

pub returns-then-not-limit_right-clause-answer : goal.returns-then-not-limit_right-clause-answer
returns-then-not-limit_right-clause-answer c =
    λ address room.
    let a = c.args in
    let b = board_of a.wanted.now a.known in
    rw c.at.ensures.answer (sym (check_limit b a.numbers.now address a.limit room (sym c.limit_right.ensures.answer ∙ c.if-not-limit_right.true)))

pub returns-then-numbers-ne-NUMBERS-clause-answer : goal.returns-then-numbers-ne-NUMBERS-clause-answer
returns-then-numbers-ne-NUMBERS-clause-answer c =
    λ address room.
    let a = c.args in
    let b = board_of a.wanted.now a.known in
    let limited = sym c.limit_right.ensures.answer ∙ c.if-not-limit_right.false in
    rw c.at-then-numbers-ne-NUMBERS.ensures.answer (sym (check_count b a.numbers.now address a.limit room limited c.if-numbers-ne-NUMBERS.true))

pub returns-in_err-want-clause-answer : goal.returns-in_err-want-clause-answer
returns-in_err-want-clause-answer c =
    let a = c.args in
    let b = board_of a.wanted.now a.known in
    let limited = sym c.limit_right.ensures.answer ∙ c.if-not-limit_right.false in
    let p = err_from_is_err_and c.from_residual.result c.from_residual.ensures.1 in
    λ address room.
    rw (p.1, p.2)
    (sym
    (check_settings b a.numbers.now address a.limit room limited c.if-numbers-ne-NUMBERS.false
    ∙ ap (λ (v : Verdict (Unit {0})). after v (unknown_verdict b a.numbers.now address a.limit room)) (sym c.in_err-want.ensures.answer)))

pub returns-clause-answer : goal.returns-clause-answer
returns-clause-answer c =
    λ address room.
    let a = c.args in
    let b = board_of a.wanted.now a.known in
    let limited = sym c.limit_right.ensures.answer ∙ c.if-not-limit_right.false in
    c.check_known.ensures.answer a.wanted.now address a.limit room
    ∙ sym
    (check_settings b a.numbers.now address a.limit room limited c.if-numbers-ne-NUMBERS.false
    ∙ ap (λ (v : Verdict (Unit {0})). after v (unknown_verdict b a.numbers.now address a.limit room)) (sym c.in_ok-want.ensures.answer))
