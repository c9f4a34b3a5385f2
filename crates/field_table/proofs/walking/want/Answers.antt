-- The verdict so far and the rows that are left decide as the whole table does, and bring the image to what it does.
use Rattle.std.proofs.Common.{◌+◌, drop, sym, ap, ◌∙◌, arith}
use Rattle.refusals.specs.Verdict.{after, verdict_as}
use Rattle.refusals.proofs.VerdictLaws.{after-good, after_assoc}
use Rattle.field_table.specs.Coding.{plain_fields}
use Rattle.field_table.specs.Writes.{puts}
use Rattle.field_table.specs.Walk.{check_of, writes_of}
use Rattle.field_table.proofs.WalkLaws.{fits_next, fits-first, fits-rest, check_next, check_end, puts-next, puts-end}
use Rattle.field_table.proofs.walking.want.Goals as goal

pub want_row-verdict-requires : goal.want_row-verdict-requires
want_row-verdict-requires c =
    fits-first _ _ (fits_next c.args.rows.now c.loop-packed.packed-index c.loop-packed-test.true c.loop-packed.invariant.fits)

pub loop-packed-preserved : goal.loop-packed-preserved
loop-packed-preserved c =
    let l = c.loop-packed in
    let ps = c.args.rows.now in
    let zs = c.args.numbers.now in
    let rest = plain_fields (drop (l.packed-index + 1) ps) in
    record {
      fits = fits-rest _ _ (fits_next ps l.packed-index c.loop-packed-test.true l.invariant.fits);
      verdict =
          ap (λ v. after v (check_of zs rest)) c.want_row-verdict.ensures.answer
          ∙ after_assoc (verdict_as l.verdict) _ (check_of zs rest)
          ∙ ap (after (verdict_as l.verdict)) (sym (check_next ps l.packed-index c.loop-packed-test.true zs)) ∙ l.invariant.verdict;
      registers =
          ap (λ x. puts x (writes_of zs rest)) c.want_row-verdict.ensures.memory
          ∙ sym (puts-next ps l.packed-index c.loop-packed-test.true zs l.image) ∙ l.invariant.registers;
    }

pub returns-clause-answer : goal.returns-clause-answer
returns-clause-answer c =
    let l = c.loop-packed in
    sym (after-good _) ∙ ap (after (verdict_as l.verdict)) (sym (check_end c.args.rows.now l.packed-index (omega arith) (omega arith) c.args.numbers.now))
    ∙ l.invariant.verdict

pub returns-clause-memory : goal.returns-clause-memory
returns-clause-memory c =
    let l = c.loop-packed in
    sym (puts-end c.args.rows.now l.packed-index (omega arith) (omega arith) c.args.numbers.now l.image) ∙ l.invariant.registers
