use Rattle.std.proofs.Common.{◌≡◌, drop}
use Rattle.field_table.specs.Coding.{plain_fields}
use Rattle.field_table.specs.Walk.{check_of, all_fit}
use Rattle.std.proofs.Common.{T}
use Rattle.field_table.proofs.walking.check.Given as goal

abbrev pub invariant-loop-packed : goal.invariant-loop-packed
invariant-loop-packed l = record {
  fits : T (all_fit (plain_fields (drop l.packed-index l.rows)));
  due : check_of l.numbers (plain_fields (drop l.packed-index l.rows)) ≡ check_of l.numbers (plain_fields l.rows);
}
