-- Document 01, "Packing": one step through a packed plan. Where transactions are still to come, the next one stands in front: 6 bits of subaddress,
-- 6 bits of data count, never 0, then the data. After the last one zero bits fill the last byte. Anything else is a fault.
use Rattle.std.specs.Prelude.{Bool, cond, ◌&&◌, List, ℕ, zero, suc, ◌+◌, ◌*◌, leb, ltb, eqb, length, drop, Option, Some, None, Result, Ok, Err}
use Rattle.bits.specs.Strings.{msb_value, byte_bits, first_bytes}
use Rattle.bus.specs.Transactions.{Transaction as BusTransaction}
use Rattle.refusals.specs.declared.Refusal.{Refusal}
use Rattle.refusals.specs.declared.Refusal.TheVariants.{PlanBytes}
use Rattle.packing.specs.Packing.{behind, anywhere}
use Rattle.unpacking.specs.declared.places.Place.{Place}
use Rattle.unpacking.specs.declared.steps.Order.{Order}
use Rattle.unpacking.specs.declared.steps.Order.TheVariants.{Ascending, Any}
use Rattle.unpacking.specs.declared.steps.Cursor.{Cursor}
use Rattle.unpacking.specs.declared.steps.Transaction.{Transaction}
use Rattle.unpacking.specs.Unpacking.{number}
use Rattle.unpacking.specs.Places.{taken, place_after, left_at, inside}

-- the first register that a transaction may start at, by the end of the one before it
abbrev pub start_after : Order → ℕ → ℕ
start_after Ascending = behind
start_after Any = anywhere

-- the cursor at a plan's beginning: after the transaction count, with all of them to come
abbrev pub beginning : List ℕ → Order → Cursor
beginning plan order = record { place = place_after 6; left = number 6 (byte_bits plan); free = 0; order = order }

-- fewer than eight bits are left, all clear
abbrev pub filling : List Bool → Bool
filling bs = ltb (length bs) 8 && eqb (msb_value bs) 0

-- the subaddress and the data count that stand in front, and the bits past those data
abbrev pub subaddress_in : List Bool → ℕ
subaddress_in bs = number 6 bs

abbrev pub count_in : List Bool → ℕ
count_in bs = number 6 (drop 6 bs)

abbrev pub past_first : List Bool → List Bool
past_first bs = drop (count_in bs * 8) (drop 12 bs)

-- a transaction stands in front: a header, whose data count is not 0 and whose subaddress is no lower than the first free register, and its data
abbrev pub in_front : ℕ → List Bool → Bool
in_front free bs = leb 12 (length bs) && (ltb 0 (count_in bs) && (leb free (subaddress_in bs) && leb (count_in bs * 8) (length (drop 12 bs))))

-- a transaction with its data at a place, and the cursor past it, with so many transactions to come
abbrev pub found_at : ℕ → ℕ → Place → ℕ → Order → Transaction
found_at subaddress count p left order = record {
  subaddress = subaddress;
  count = count;
  «data» = p;
  after = record { place = record { at = p.at + count; held = p.held }; left = left; free = start_after order (subaddress + count); order = order };
}

-- the transaction that stands in front of the bits left at a place
abbrev pub first_at : Place → ℕ → Order → List Bool → Transaction
first_at p left order bs = found_at (subaddress_in bs) (count_in bs) (place_after (taken p + 12)) left order

-- what a step finds: a transaction, none at the end, or a refusal
abbrev pub Step : Type 0
Step = Result (Option Transaction) Refusal

-- the step at a place, by how many transactions are to come and the bits left
abbrev pub step_at : Place → ℕ → ℕ → Order → List Bool → Step
step_at p zero free order bs = cond (filling bs) (Ok None) (Err PlanBytes)
step_at p (suc n) free order bs = cond (in_front free bs) (Ok (Some (first_at p n order bs))) (Err PlanBytes)

-- the step at a cursor; a cursor that is no place in the plan is a fault
unfoldable pub next_of : List ℕ → Cursor → Step
next_of plan c = cond (inside plan c.place) (step_at c.place c.left c.free c.order (left_at plan c.place)) (Err PlanBytes)

-- the transaction with a subaddress and so many data from a place on
abbrev pub transaction_at : List ℕ → ℕ → ℕ → Place → BusTransaction
transaction_at plan subaddress count place = record { subaddress = subaddress; bytes = first_bytes count (left_at plan place) }
