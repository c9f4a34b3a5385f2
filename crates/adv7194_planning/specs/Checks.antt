-- Document 01, "Refusals", document 02, P5 and P6: what planning checks between the bus address and the room: the limit, the count of the settings' numbers,
-- the settings' fields in order, and row 11 at each field.
use Rattle.std.specs.Prelude.{◌&&◌, cond, List, [], ◌∷◌, ◌++◌, ℕ, eqb, ℤ, length}
use Rattle.refusals.specs.Order.{Place, places_at, places_in}
use Rattle.adv7194_bus.specs.Limit.{limit_right}
use Rattle.adv7194_table.specs.Fields.{number_count}
use Rattle.adv7194_table.specs.Table.{table, order_of}
use Rattle.adv7194_settings.specs.Order.{order}
use Rattle.adv7194_settings.specs.Wanted.{wanted_by}

-- the places that are checked, in order
unfoldable pub checks : List Place
checks = places_at (3 ∷ []) 0 ++ (order ++ places_in (λ f. 11 ∷ []) (order_of table))

-- what checking leaves in a lent image: what the settings want over it, where the limit and the count are right
abbrev pub checked_image : List ℕ → List ℤ → ℕ → List ℕ
checked_image image zs limit = cond (limit_right limit && eqb (length zs) number_count) (wanted_by image zs) image
