-- The packed rows are the table, and what they read are the settings in parts.
use Rattle.std.proofs.Common.{List, ℤ, T, length, refl, sym, ap, ◌∙◌, subst}
use Rattle.std.proofs.lemmas.Result.{err_from_is_err_and}
use Rattle.field_table.specs.Walk as table
use Rattle.adv7195_settings.specs.Numbers.{numbers_of, joins}
use Rattle.adv7195_settings.specs.Rows.{settings_held}
use Rattle.adv7195_settings.proofs.TableLaws.{rows_fit, judge_walk}
use Rattle.adv7195_settings.proofs.ReadingLaws.{image-length, numbers-length, judged_read, answered, held-joins, held_parts_length}
use Rattle.adv7195_reading.proofs.read.Goals as goal

pub returns-then-image : goal.returns-then-image
returns-then-image c =
    let a = c.args in
    let p = answered a.image.now a.numbers.now (image-length a.image.now (length a.numbers.now) c.if-image.true) refl in
    rw c.at.ensures.answer (record { answer = p.0; memory = p.1.0; exactly = p.1.1 })

pub returns-then-numbers-ne-NUMBERS : goal.returns-then-numbers-ne-NUMBERS
returns-then-numbers-ne-NUMBERS c =
    let a = c.args in
    let p =
    answered a.image.now a.numbers.now (numbers-length a.image.now (length a.numbers.now) c.if-image.false c.if-numbers-ne-NUMBERS.true) refl in
    rw c.at-then-numbers-ne-NUMBERS.ensures.answer (record { answer = p.0; memory = p.1.0; exactly = p.1.1 })

pub read-requires : goal.read-requires
read-requires c = rows_fit _ c.rows.ensures.answer

pub returns-in_err-read : goal.returns-in_err-read
returns-in_err-read c =
    let a = c.args in
    let q = err_from_is_err_and c.from_residual.result c.from_residual.ensures.1 in
    let judged =
    c.in_err-read.ensures.answer ∙ ap (table.judge_of a.image.now) c.rows.ensures.answer ∙ judge_walk a.image.now
    ∙ judged_read a.image.now _ c.if-image.false c.if-numbers-ne-NUMBERS.false in
    let p = answered a.image.now a.numbers.now judged refl in
    rw (q.1, q.2) (record { answer = p.0; memory = p.1.0; exactly = p.1.1 })

pub numbers_of-requires : goal.numbers_of-requires
numbers_of-requires c =
    let image = c.args.image.now in
    let held = c.in_ok-read.ensures.memory ∙ ap (table.numbers_of image _) c.rows.ensures.answer in (
      ap length held ∙ held_parts_length image,
      (c.if-numbers-ne-NUMBERS.false, subst (λ (ps : List ℤ). T (joins ps)) (sym held) (held-joins image)),
    )

pub returns : goal.returns
unfolding settings_held
returns c =
    let a = c.args in
    let judged =
    c.in_ok-read.ensures.answer ∙ ap (table.judge_of a.image.now) c.rows.ensures.answer ∙ judge_walk a.image.now
    ∙ judged_read a.image.now _ c.if-image.false c.if-numbers-ne-NUMBERS.false in
    let held = c.in_ok-read.ensures.memory ∙ ap (table.numbers_of a.image.now _) c.rows.ensures.answer in
    let p = answered a.image.now a.numbers.now judged (c.numbers_of.ensures.memory ∙ ap numbers_of held) in
    record { answer = p.0; memory = p.1.0; exactly = p.1.1 }
