-- Document 01, "Refusals": planning checks 1, 2, then the settings' fields in order, then 10; of its image it judges only the length. The settings are 49
-- numbers: another count is refused as 3 at field 0, before the fields. Document 02, P5: where settings and must-be-zero bits fix only some bits of an unknown
-- register, planning refuses by 11 and the lowest such field, after the field checks and before 10. P6: a limit that isn't right is refused as 3 at field 0,
-- after the bus address.
use Rattle.std.specs.Prelude.{Bool, cond, not, ◌&&◌, ◌||◌, List, [], ◌∷◌, ◌++◌, ℕ, eqb, ltb, ℤ, length}
use Rattle.refusals.specs.Order.{Place, places_at, places_in}
use Rattle.bus.specs.Transactions.{Transaction}
use Rattle.packing.specs.Packing.{packed}
use Rattle.adv7194_bus.specs.Kind.{register_count}
use Rattle.bus.specs.Address.{address_right}
use Rattle.adv7194_bus.specs.Limit.{limit_right}
use Rattle.adv7194_bus.specs.declared.board.Board.{Board}
use Rattle.adv7194_table.specs.Fields.{number_count}
use Rattle.adv7194_table.specs.Table.{table, order_of}
use Rattle.adv7194_settings.specs.Known.{partly_fixed}
use Rattle.adv7194_settings.specs.Order.{order}
use Rattle.adv7194_settings.specs.Rows.{row_holds}
use Rattle.adv7194_least.specs.Aim.{aim_of}
use Rattle.adv7194_least.specs.Plan.{plan_of}

-- the plan's transactions
unfoldable pub list_of : Board → List ℤ → ℕ → List Transaction
list_of b zs limit = plan_of (aim_of b zs limit)

-- row n holds at field f of what is handed to planning; at no field: the image's length, the address, the limit or the count of numbers, a lent plan of that
-- many bytes
unfoldable pub row_planned : Board → List ℤ → ℕ → ℕ → ℕ → ℕ → ℕ → Bool
row_planned b zs address limit room n f =
    cond (eqb f 0)
    (cond (eqb n 1) (not (eqb (length b.registers) register_count))
    (cond (eqb n 2) (not (address_right address))
    (cond (eqb n 3) (not (limit_right limit) || not (eqb (length zs) number_count)) (eqb n 10 && ltb room (length (packed (list_of b zs limit)))))))
    (cond (eqb n 11) (partly_fixed b zs f) (row_holds zs n f))

-- the checking order of planning: after the settings row 11 at each field, then the room
unfoldable pub plan_order : List Place
plan_order = places_at (1 ∷ 2 ∷ 3 ∷ []) 0 ++ (order ++ (places_in (λ f. 11 ∷ []) (order_of table) ++ places_at (10 ∷ []) 0))
