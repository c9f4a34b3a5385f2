-- The rows that the coding in thousandths takes: a whole register, settings from 0 up to a highest that is at most a bound, other codes outside the range.
use Rattle.std.specs.Prelude.{◌≡◌, ℕ, ◌≤◌, pos, nat_abs}
use Rattle.field_table.specs.declared.row.Row.{Row}
use Rattle.field_table.specs.Coding.{Field}
use Rattle.adv7194_table.specs.Fields.{per_thousand}

pub record UpTo (bound : ℕ) (r : Row) : Type 0 where
  pub bit : r.bit ≡ 0
  pub width : r.width ≡ 8
  pub low : r.low ≡ pos 0
  pub high : r.high ≡ pos (nat_abs r.high)
  pub most : nat_abs r.high ≤ bound
  pub outside : r.outside ≡ 3

-- such a row with that coding
abbrev pub in_thousandths : Row → Field
in_thousandths r = record { row = r; coding = per_thousand }
