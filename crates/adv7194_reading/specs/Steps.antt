-- Reading goes in two parts: fields 1 to 10, and those from 11 on.
use mathlib.Core.List.{List, foldl}
use Rattle.std.specs.Prelude.{ℕ, ℤ, take, drop}
use Rattle.refusals.specs.Verdict.{Verdict}
use Rattle.refusals.specs.Order.{first_of, places_in}
use Rattle.adv7194_table.specs.Table.{table, order_of}
use Rattle.adv7194_settings.specs.Held.{no_numbers, store_entry}
use Rattle.adv7194_settings.specs.Rows.{row_held}
use Rattle.adv7194_settings.specs.Order.{rows_at}

-- the first part of the table, and of the checking order
abbrev pub first_count : ℕ
first_count = 10

abbrev pub first_fields : List ℕ
first_fields = take first_count (order_of table)

-- the last part of the checking order
abbrev pub last_fields : List ℕ
last_fields = drop first_count (order_of table)

-- the first row that holds at some fields of an image
abbrev pub fault_in : List ℕ → List ℕ → Verdict (Unit {0})
fault_in image fs = first_of (row_held image) (places_in rows_at fs) tt

-- the numbers once the first part is read
unfoldable pub first_numbers : List ℕ → List ℤ
first_numbers image = foldl (store_entry image) no_numbers (take first_count table)
