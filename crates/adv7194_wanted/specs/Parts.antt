-- The table in two parts, as the code goes through it, and the verdict on some of its entries.
use Rattle.std.specs.Prelude.{List, [], ◌∷◌, map, ◌++◌, ℤ}
use Rattle.refusals.specs.Verdict.{Verdict}
use Rattle.refusals.specs.Order.{first_of, places_in}
use Rattle.adv7194_table.specs.Fields.{timing, pedestal, output, picture, dnr}
use Rattle.adv7194_table.specs.Blocks.{signalling, curve_a, curve_b, word}
use Rattle.adv7194_table.specs.Table.{signals, curve, subcarrier, Entry, single, whole, order_of}
use Rattle.adv7194_settings.specs.Rows.{row_holds}
use Rattle.adv7194_settings.specs.Order.{rows_at}

-- fields 1 to 10
unfoldable pub first_part : List Entry
first_part = map single timing ++ (single pedestal ∷ map single output)

-- fields 11 to 28
unfoldable pub second_part : List Entry
second_part =
    whole signals signalling ∷ (map single picture ++ (map single dnr ++ (whole curve curve_a ∷ whole curve curve_b ∷ whole subcarrier word ∷ [])))

-- the first row that holds of the settings at some entries' fields, in the checking order
unfoldable pub fault_in : List ℤ → List Entry → Verdict (Unit {0})
fault_in zs es = first_of (row_holds zs) (places_in rows_at (order_of es)) tt
