use Rattle.std.proofs.Common.{◌≡◌, ◌+◌, ◌*◌, ◌^◌, ◌≤◌, drop}
use Rattle.adv7194_table.specs.Blocks.{blocks_of}
use Rattle.adv7194_table.specs.Masks.{blocks_mask}
use Rattle.adv7194_table.proofs.own.blocks_mask.Given as goal

abbrev pub invariant-loop-packed : goal.invariant-loop-packed
invariant-loop-packed l = record {
  small : l.mask ≤ l.packed-index * 2 ^ 32;
  sum : l.mask + blocks_mask l.field l.register (blocks_of (drop l.packed-index l.packed-items)) ≡ blocks_mask l.field l.register (blocks_of l.packed-items);
}
