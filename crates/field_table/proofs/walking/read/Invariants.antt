use Rattle.std.proofs.Common.{◌≡◌, T, drop}
use Rattle.refusals.specs.Verdict.{after, verdict_as}
use Rattle.field_table.specs.Coding.{plain_fields}
use Rattle.field_table.specs.Walk.{judge_of, numbers_of, all_fit}
use Rattle.field_table.proofs.walking.read.Given as goal

abbrev pub invariant-loop-packed : goal.invariant-loop-packed
invariant-loop-packed l = record {
  fits : T (all_fit (plain_fields (drop l.packed-index l.rows)));
  verdict : after (verdict_as l.verdict) (judge_of l.image (plain_fields (drop l.packed-index l.rows))) ≡ judge_of l.image (plain_fields l.rows);
  numbers : numbers_of l.image l.numbers (plain_fields (drop l.packed-index l.rows)) ≡ numbers_of l.image l.initial.numbers (plain_fields l.rows);
}
