-- The verdict so far and the rows that are left decide as the whole table does, and bring the numbers to what it does.
use Rattle.std.proofs.Common.{◌+◌, drop, sym, ap, ◌∙◌, arith}
use Rattle.refusals.specs.Verdict.{after, verdict_as}
use Rattle.refusals.proofs.VerdictLaws.{after-good, after_assoc}
use Rattle.field_table.specs.Coding.{plain_fields}
use Rattle.field_table.specs.Walk.{judge_of, numbers_of}
use Rattle.field_table.proofs.WalkLaws.{fits_next, fits-first, fits-rest, judge_next, judge_end, numbers-next, numbers-end}
use Rattle.field_table.proofs.walking.read.Goals as goal

pub read_row-verdict-requires : goal.read_row-verdict-requires
read_row-verdict-requires c =
    fits-first _ _ (fits_next c.args.rows.now c.loop-packed.packed-index c.loop-packed-test.true c.loop-packed.invariant.fits)

pub loop-packed-preserved : goal.loop-packed-preserved
loop-packed-preserved c =
    let l = c.loop-packed in
    let ps = c.args.rows.now in
    let image = c.args.image.now in
    let rest = plain_fields (drop (l.packed-index + 1) ps) in
    record {
      fits = fits-rest _ _ (fits_next ps l.packed-index c.loop-packed-test.true l.invariant.fits);
      verdict =
          ap (λ v. after v (judge_of image rest)) c.read_row-verdict.ensures.answer
          ∙ after_assoc (verdict_as l.verdict) _ (judge_of image rest)
          ∙ ap (after (verdict_as l.verdict)) (sym (judge_next ps l.packed-index c.loop-packed-test.true image)) ∙ l.invariant.verdict;
      numbers =
          ap (λ x. numbers_of image x rest) c.read_row-verdict.ensures.memory
          ∙ sym (numbers-next ps l.packed-index c.loop-packed-test.true image l.numbers) ∙ l.invariant.numbers;
    }

pub returns-clause-answer : goal.returns-clause-answer
returns-clause-answer c =
    let l = c.loop-packed in
    sym (after-good _) ∙ ap (after (verdict_as l.verdict)) (sym (judge_end c.args.rows.now l.packed-index (omega arith) (omega arith) c.args.image.now))
    ∙ l.invariant.verdict

pub returns-clause-memory : goal.returns-clause-memory
returns-clause-memory c =
    let l = c.loop-packed in
    sym (numbers-end c.args.rows.now l.packed-index (omega arith) (omega arith) c.args.image.now l.numbers) ∙ l.invariant.numbers
