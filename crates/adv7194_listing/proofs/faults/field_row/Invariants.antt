-- `faults::field_row`: the field's row is the first of those not passed.
use Rattle.std.proofs.Common.{◌≡◌, drop}
use Rattle.adv7194_table.specs.Table.{rows_of}
use Rattle.adv7194_listing.specs.Faults.{row_at, field_row}
use Rattle.adv7194_listing.proofs.faults.field_row.Given as goal

abbrev pub invariant-loop-packed : goal.invariant-loop-packed
invariant-loop-packed l = row_at l.field (rows_of (drop l.packed-index l.packed-items)) ≡ field_row l.field
