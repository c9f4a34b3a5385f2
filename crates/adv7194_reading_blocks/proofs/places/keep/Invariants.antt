use Rattle.std.proofs.Common.{◌≡◌, ◌+◌, drop}
use Rattle.field_table.specs.Blocks.{store_from}
use Rattle.adv7194_reading_blocks.proofs.places.keep.Given as goal

-- the values that are left bring the numbers to what all of them do
abbrev pub invariant-loop-i : goal.invariant-loop-i
invariant-loop-i l = store_from l.numbers (l.index + l.i) (drop l.i l.values) ≡ store_from l.initial.numbers l.index l.values
