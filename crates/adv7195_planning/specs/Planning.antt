-- Document 01, "Refusals" and "Packing", and document 02, P13: planning checks 1, 2, then the settings' fields in order, then 10; of its image it judges only
-- the length. The settings are 58 numbers: another count is refused as 3 at field 0, before the fields. Planning answers the packed plan's length, its
-- transactions and its bus bytes, counted from the list that it packed. The lent plan past the packed bytes stays as it was; a refusal writes nothing.
use Rattle.std.specs.Prelude.{Bool, cond, not, ◌&&◌, List, [], ◌∷◌, ◌++◌, ℕ, eqb, ltb, ℤ, length}
use Rattle.refusals.specs.Verdict.{Verdict}
use Rattle.refusals.specs.Order.{Place, first_of, places_at}
use Rattle.bus.specs.Transactions.{Transaction}
use Rattle.bus.specs.Address.{address_right}
use Rattle.packing.specs.Packing.{packed}
use Rattle.planning.specs.Plan.{Counts, counts_of, packed_left}
use Rattle.adv7195_bus.specs.Kind.{register_count}
use Rattle.adv7195_settings.specs.Numbers.{number_count}
use Rattle.adv7195_settings.specs.Wanted.{wanted_by}
use Rattle.adv7195_settings.specs.Rows.{setting_row, order}
use Rattle.adv7195_least.specs.Plan.{plan_of}

-- the plan's transactions
unfoldable pub list_of : List ℕ → List ℤ → List Transaction
list_of image zs = plan_of image (wanted_by image zs)

-- row n holds of the call, at no field: the image's length, the address, the count of numbers, a lent plan of that many bytes
abbrev pub call_row : List ℕ → List ℤ → ℕ → ℕ → ℕ → Bool
call_row image zs address room n =
    cond (eqb n 1) (not (eqb (length image) register_count))
    (cond (eqb n 2) (not (address_right address))
    (cond (eqb n 3) (not (eqb (length zs) number_count))
    (eqb n 10 && ltb room (length (packed (list_of image zs))))))

-- row n holds at field f of what is handed to planning
unfoldable pub row_planned : List ℕ → List ℤ → ℕ → ℕ → ℕ → ℕ → Bool
row_planned image zs address room n f = cond (eqb f 0) (call_row image zs address room n) (setting_row zs n f)

-- the checking order of planning
unfoldable pub plan_order : List Place
plan_order = places_at (1 ∷ 2 ∷ 3 ∷ []) 0 ++ (order ++ places_at (10 ∷ []) 0)

-- planning: row n at field f where it is the first of the checking order that holds; else the numbers of the packed list
unfoldable pub planning_of : List ℕ → List ℤ → ℕ → ℕ → Verdict Counts
planning_of image zs address room = first_of (row_planned image zs address room) plan_order (counts_of (list_of image zs))

-- the lent plan that planning leaves
abbrev pub plan_left : List ℕ → List ℤ → ℕ → List ℕ → List ℕ
plan_left image zs address plan = packed_left (list_of image zs) plan (planning_of image zs address (length plan))
