use Rattle.std.proofs.Common.{◌≡◌, ◌+◌, ◌*◌, ◌^◌, ◌≤◌, drop}
use Rattle.adv7194_table.specs.Table.{rows_of}
use Rattle.adv7194_table.specs.Masks.{rows_mask}
use Rattle.adv7194_table.proofs.own.rows_mask.Given as goal

abbrev pub invariant-loop-packed : goal.invariant-loop-packed
invariant-loop-packed l = record {
  small : l.mask ≤ l.packed-index * 2 ^ 32;
  sum : l.mask + rows_mask l.field l.register (rows_of (drop l.packed-index l.packed-items)) ≡ rows_mask l.field l.register (rows_of l.packed-items);
}
