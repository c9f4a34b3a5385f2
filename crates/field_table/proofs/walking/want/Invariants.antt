use Rattle.std.proofs.Common.{◌≡◌, T, drop}
use Rattle.refusals.specs.Verdict.{after, verdict_as}
use Rattle.field_table.specs.Coding.{plain_fields}
use Rattle.field_table.specs.Writes.{puts}
use Rattle.field_table.specs.Walk.{check_of, writes_of, all_fit}
use Rattle.field_table.proofs.walking.want.Given as goal

abbrev pub invariant-loop-packed : goal.invariant-loop-packed
invariant-loop-packed l = record {
  fits : T (all_fit (plain_fields (drop l.packed-index l.rows)));
  verdict : after (verdict_as l.verdict) (check_of l.numbers (plain_fields (drop l.packed-index l.rows))) ≡ check_of l.numbers (plain_fields l.rows);
  registers : puts l.image (writes_of l.numbers (plain_fields (drop l.packed-index l.rows))) ≡ puts l.initial.image (writes_of l.numbers (plain_fields l.rows));
}
