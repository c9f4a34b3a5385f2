-- The rows that are left decide as the whole table does.
use Rattle.std.proofs.Common.{◌≡◌, ℕ, ◌+◌, ◌<◌, List, length, get_or, drop, ℤ, sym, ◌∙◌, arith}
use Rattle.std.proofs.lemmas.Grind.{common_steps}
use Rattle.std.proofs.lemmas.Int.{ints}
use Rattle.refusals.specs.Refusal.{Judged, judged_as}
use Rattle.refusals.specs.Verdict.{after, fault_of}
use Rattle.field_table.specs.Rows.{row_of}
use Rattle.field_table.specs.Coding.{plain_of, plain_fields, encode}
use Rattle.field_table.specs.Walk.{given, check_of}
use Rattle.field_table.proofs.WalkLaws.{same-fits, fits_next, fits-first, fits-rest, check_next, check_end}
use Rattle.field_table.proofs.walking.check.Goals as goal

-- the verdict by the rows from the i-th on, where that row's setting was coded
due-next : (ps : List ℕ) (zs : List ℤ) (i : ℕ) (j : Judged ℕ) → i < length ps
    → j ≡ encode (plain_of (row_of (get_or ps i 0))) (given zs (row_of (get_or ps i 0)))
    → check_of zs (plain_fields (drop i ps)) ≡ after (fault_of (row_of (get_or ps i 0)).field j) (check_of zs (plain_fields (drop (i + 1) ps)))
due-next ps zs i j h e = rw e (check_next ps i h zs)

pub code-requires : goal.code-requires
code-requires c =
    same-fits c.row_of-row.ensures.answer
    (fits-first _ _ (fits_next c.args.rows.now c.loop-packed.packed-index c.loop-packed-test.true c.loop-packed.invariant.fits))

pub returns-in_err-map_err : goal.returns-in_err-map_err
returns-in_err-map_err c =
    let ps = c.args.rows.now in
    let zs = c.args.numbers.now in
    let r = row_of (get_or ps c.loop-packed.packed-index 0) in
    let coded : judged_as c.code.result ≡ encode (plain_of r) (given zs r) = grind (arith, ints) in
    let due = due-next ps zs c.loop-packed.packed-index (judged_as c.code.result) c.loop-packed-test.true coded in
    record { answer = grind (arith, common_steps) }

pub loop-packed-preserved : goal.loop-packed-preserved
loop-packed-preserved c =
    let ps = c.args.rows.now in
    let zs = c.args.numbers.now in
    let r = row_of (get_or ps c.loop-packed.packed-index 0) in
    let coded : judged_as c.code.result ≡ encode (plain_of r) (given zs r) = grind (arith, ints) in
    let due = due-next ps zs c.loop-packed.packed-index (judged_as c.code.result) c.loop-packed-test.true coded in
    record {
      fits = fits-rest _ _ (fits_next ps c.loop-packed.packed-index c.loop-packed-test.true c.loop-packed.invariant.fits);
      due = grind (arith, common_steps);
    }

pub returns : goal.returns
returns c =
    record {
      answer = sym (sym c.loop-packed.invariant.due ∙ check_end c.args.rows.now c.loop-packed.packed-index (omega arith) (omega arith) c.args.numbers.now);
    }
