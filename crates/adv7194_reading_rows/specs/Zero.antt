-- Must-be-zero bits as the masks of the registers have them.
use Rattle.std.specs.Prelude.{◌≡◌, ◌+◌, ◌-◌, ◌^◌, T, pos, get_or}
use Rattle.field_table.specs.declared.row.Row.{Row}
use Rattle.field_table.specs.Rows.{refusal_outside}
use Rattle.field_table.specs.Walk.{row_fits}
use Rattle.adv7194_table.specs.Masks.{zero_masks}

-- a row of must-be-zero bits: they are all that its register has, its only setting is 0, and another code is reserved
pub record ZeroBits (r : Row) : Type 0 where
  pub fits : T (row_fits r)
  pub mask : get_or zero_masks r.register 0 ≡ 2 ^ (r.width + r.bit) - 2 ^ r.bit
  pub low : r.low ≡ pos 0
  pub high : r.high ≡ pos 0
  pub reserved : refusal_outside r ≡ 4
