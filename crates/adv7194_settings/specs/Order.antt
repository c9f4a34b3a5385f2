-- Document 01, "Refusals": fields are checked in order to 28; within a field the order is 3, 4, 5, 6, within field 11 it is 7, 3, 4, 8. Row 8 holds of
-- field 28 too.
use Rattle.std.specs.Prelude.{cond, List, [], ◌∷◌, ℕ, eqb}
use Rattle.refusals.specs.Order.{Place, places_in}
use Rattle.adv7194_table.specs.Blocks.{signalling}
use Rattle.adv7194_table.specs.Table.{table, order_of}

-- the rows of a field, in their order
abbrev pub rows_at : ℕ → List ℕ
rows_at f = cond (eqb f signalling.field) (7 ∷ 3 ∷ 4 ∷ 8 ∷ []) (3 ∷ 4 ∷ 5 ∷ 6 ∷ 8 ∷ [])

-- the checking order
unfoldable pub order : List Place
order = places_in rows_at (order_of table)
