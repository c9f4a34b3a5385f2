-- `read` meets its contract: by the lengths, and by the verdict on the image and its unknown registers.
use Rattle.std.proofs.Common.{◌≡◌, length, refl, sym, ap, ap₂, ◌∙◌, rules}
use Rattle.refusals.specs.declared.Fault.{Fault}
use Rattle.refusals.specs.Refusal.{number_of}
use Rattle.refusals.specs.Verdict.{Verdict, good, refused_at, after, left_by, verdict_as}
use Rattle.adv7194_bus.specs.Board.{board_of}
use Rattle.adv7194_settings.specs.Held.{settings_held}
use Rattle.adv7194_settings.specs.Reading.{with_unknown}
use Rattle.adv7194_settings.proofs.ReadingLaws.{image-length, numbers-length, judged_read, lowest_unknown}
use Rattle.adv7194_reading.specs.Steps.{last_fields, fault_in}
use Rattle.adv7194_reading.proofs.JudgeLaws.{judged_parts}
use Rattle.adv7194_reading.proofs.AnswerLaws.{answered}
use Rattle.adv7194_reading.proofs.read.Goals as goal

-- a fault's numbers
abbrev fault_as : Fault → Verdict (Unit {0})
fault_as e = refused_at (number_of e.refusal) e.field

pub returns-then-image : goal.returns-then-image
returns-then-image c =
    let b = board_of c.args.image.now c.args.known in
    let zs = c.args.numbers.now in
    let a = answered b zs (ap fault_as c.at.ensures.answer ∙ image-length b (length zs) c.if-image.true) refl in
    record { answer = a.0; memory = a.1.0; exactly = a.1.1 }

pub returns-then-numbers-ne-NUMBERS : goal.returns-then-numbers-ne-NUMBERS
returns-then-numbers-ne-NUMBERS c =
    let b = board_of c.args.image.now c.args.known in
    let zs = c.args.numbers.now in
    let due = numbers-length b (length zs) c.if-image.false c.if-numbers-ne-NUMBERS.true in
    let a = answered b zs (ap fault_as c.at-then-numbers-ne-NUMBERS.ensures.answer ∙ due) refl in
    record { answer = a.0; memory = a.1.0; exactly = a.1.1 }

pub returns-in_err-with_unknown : goal.returns-in_err-with_unknown
returns-in_err-with_unknown c =
    let image = c.args.image.now in
    let b = board_of image c.args.known in
    let zs = c.args.numbers.now in
    let judged =
    c.read_last-last.ensures.answer ∙ ap (λ (v : Verdict (Unit {0})). after v (fault_in image last_fields)) c.read_first-first.ensures.answer
    ∙ sym (judged_parts image) in
    let known = ap₂ with_unknown (c.lowest_field.ensures.answer ∙ lowest_unknown b c.ranges.known.fits) judged in
    let due = c.with_unknown.ensures.answer ∙ known ∙ judged_read b (length zs) c.if-image.false c.if-numbers-ne-NUMBERS.false in
    let passed : verdict_as c.from_residual.result ≡ verdict_as c.with_unknown.result = search rules in
    let left : zs ≡ left_by zs (settings_held image) (verdict_as c.from_residual.result) = search rules in
    let a = answered b zs (passed ∙ due) left in
    record { answer = a.0; memory = a.1.0; exactly = a.1.1 }

pub returns-in-Some : goal.returns-in-Some
returns-in-Some c =
    let image = c.args.image.now in
    let b = board_of image c.args.known in
    let zs = c.args.numbers.now in
    let judged =
    c.read_last-last.ensures.answer ∙ ap (λ (v : Verdict (Unit {0})). after v (fault_in image last_fields)) c.read_first-first.ensures.answer
    ∙ sym (judged_parts image) in
    let known = ap₂ with_unknown (c.lowest_field.ensures.answer ∙ lowest_unknown b c.ranges.known.fits) judged in
    let due = c.with_unknown.ensures.answer ∙ known ∙ judged_read b (length zs) c.if-image.false c.if-numbers-ne-NUMBERS.false in
    let passed : good tt ≡ verdict_as c.with_unknown.result = search rules in
    let a = answered b zs (passed ∙ due) c.read_last-last.ensures.memory in
    record { answer = a.0; memory = a.1.0; exactly = a.1.1 }
