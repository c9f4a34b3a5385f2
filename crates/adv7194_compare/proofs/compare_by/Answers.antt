-- `compare_by`: by the two lengths, and then the two maps.
use Rattle.std.proofs.Common.{sym, ap, ◌∙◌}
use Rattle.refusals.specs.declared.Fault.{Fault}
use Rattle.refusals.specs.Refusal.{number_of}
use Rattle.refusals.specs.Verdict.{refused_at}
use Rattle.adv7194_compare.proofs.CompareLaws.{first_short, second_short, both_whole, list-empty}
use Rattle.adv7194_compare.proofs.compare_by.Goals as goal

pub returns-then-not-whole-clause-answer : goal.returns-then-not-whole-clause-answer
returns-then-not-whole-clause-answer c =
    ap (λ (e : Fault). refused_at (number_of e.refusal) e.field) c.at.ensures.answer
    ∙ first_short c.args.readable c.args.a.now c.args.b.now (sym c.whole.ensures.answer ∙ c.if-not-whole.true)

pub returns-then-not-whole-2-clause-answer : goal.returns-then-not-whole-2-clause-answer
returns-then-not-whole-2-clause-answer c =
    ap (λ (e : Fault). refused_at (number_of e.refusal) e.field) c.at-then-not-whole-2.ensures.answer
    ∙ second_short c.args.readable c.args.a.now c.args.b.now
    (sym c.whole.ensures.answer ∙ c.if-not-whole.false) (sym c.whole-2.ensures.answer ∙ c.if-not-whole-2.true)

pub returns-clause-answer : goal.returns-clause-answer
returns-clause-answer c =
    both_whole c.args.readable c.args.a.now c.args.b.now (sym c.whole.ensures.answer ∙ c.if-not-whole.false)
    (sym c.whole-2.ensures.answer ∙ c.if-not-whole-2.false) c.fields_differing.ensures.answer c.registers_differing.ensures.answer

pub returns-clause-equal : goal.returns-clause-equal
returns-clause-equal c =
    list-empty c.args.readable c.args.a.now c.args.b.now (λ r. ((c.type_inv.a r).fits, (c.type_inv.b r).fits)) (returns-clause-answer c)
