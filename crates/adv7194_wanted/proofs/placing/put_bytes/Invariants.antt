use Rattle.std.proofs.Common.{◌≡◌, ◌+◌, drop}
use Rattle.field_table.specs.Writes.{puts}
use Rattle.field_table.specs.Blocks.{byte_writes}
use Rattle.adv7194_wanted.proofs.placing.put_bytes.Given as goal

-- the bytes that are left bring the image to what all of them do
abbrev pub invariant-loop-i : goal.invariant-loop-i
invariant-loop-i l = puts l.image (byte_writes (l.first + l.i) (drop l.i l.bytes)) ≡ puts l.initial.image (byte_writes l.first l.bytes)
