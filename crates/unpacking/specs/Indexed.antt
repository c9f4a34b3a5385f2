-- A transaction of a packed plan by its index, counted from 0. Refusals, in the order in which they are checked: 9 where the bytes break the packing,
-- 3 for an index past the last transaction, 10 where the memory lent is shorter than the data. A refusal writes nothing.
use Rattle.std.specs.Prelude.{cond, List, ◌++◌, ℕ, ◌+◌, ◌≤◌, leb, length, drop, Some, None, Result, Ok, Err}
use Rattle.std.proofs.Math.Option.{Option, none, some}
use Rattle.std.proofs.Math.ListN.{get_elem?}
use Rattle.refusals.specs.Refusal.{Judged, accepted, refused, number_of}
use Rattle.refusals.specs.declared.Refusal.{Refusal}
use Rattle.bus.specs.Transactions.{Transaction, size}
use Rattle.unpacking.specs.declared.indexed.Header.{Header}
use Rattle.unpacking.specs.Places.{Placed}
use Rattle.unpacking.specs.Steps.{Step, transaction_at}

-- what a plan has at an index, where there is room for its data: past the last transaction refusal 3, without room refusal 10
abbrev pub with_room : ℕ → Option Transaction → Judged Transaction
with_room room none = refused 3
with_room room (some t) = cond (leb (size t) room) (accepted t) (refused 10)

-- the transaction that is answered, of what was unpacked
abbrev pub transaction_of : Judged (List Transaction) → ℕ → ℕ → Judged Transaction
transaction_of (accepted ts) index room = with_room room (get_elem? ts index)
transaction_of (refused n) index room = refused n

-- the memory afterwards: the data at its front, the rest of it as it was
abbrev pub data_after : Judged Transaction → List ℕ → List ℕ
data_after (accepted t) memory = t.bytes ++ drop (size t) memory
data_after (refused n) memory = memory

-- the numbers that are answered: subaddress and data count
pub record Numbers : Type 0 where
  pub subaddress : ℕ
  pub count : ℕ

-- those of a transaction
abbrev pub header_of : Judged Transaction → Judged Numbers
header_of (accepted t) = accepted (record { subaddress = t.subaddress; count = size t })
header_of (refused n) = refused n

-- the answer as document 01 has it
abbrev pub answer_of : Result Header Refusal → Judged Numbers
answer_of (Ok h) = accepted (record { subaddress = h.subaddress; count = h.count })
answer_of (Err r) = refused (number_of r)

-- what was unpacked has this at an index
abbrev pub looked_up : Judged (List Transaction) → ℕ → Judged (Option Transaction)
looked_up (accepted ts) index = accepted (get_elem? ts index)
looked_up (refused n) index = refused n

-- what a search found
abbrev pub found_as : List ℕ → Step → Judged (Option Transaction)
found_as plan (Ok (Some t)) = accepted (some (transaction_at plan t.subaddress t.count t.«data»))
found_as plan (Ok None) = accepted none
found_as plan (Err r) = refused (number_of r)

-- its data are in the plan
abbrev pub FoundPlaced : List ℕ → Step → Type 0
FoundPlaced plan (Ok (Some t)) = Placed plan t.«data» × (t.«data».at + t.count ≤ length plan)
FoundPlaced plan (Ok None) = Unit {0}
FoundPlaced plan (Err r) = Unit {0}
