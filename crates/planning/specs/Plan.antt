-- Document 01, "Packing", document 02, P6: the plan for the needed registers, packed into the lent plan. Its byte count is that of the list packed; the lent
-- plan past the packed bytes stays as it was. A lent plan shorter than the packed one is refusal 10, which writes nothing.
use Rattle.std.specs.Prelude.{◌≡◌, true, cond, List, ◌++◌, ℕ, ◌-◌, ◌≤◌, ◌<◌, leb, length, get_or, drop, Result, Ok, Err}
use Rattle.std.specs.Int.Bits.{bit_and}
use Rattle.std.specs.Int.Count.{ones}
use Rattle.bits.specs.Maps.{map_width, has, complement}
use Rattle.refusals.specs.declared.Fault.{Fault}
use Rattle.refusals.specs.Refusal.{number_of}
use Rattle.refusals.specs.Verdict.{Verdict, good, refused_at, left_by}
use Rattle.bus.specs.Transactions.{Transaction, bus_bytes}
use Rattle.bus.specs.Cost.{data_count, cost_of}
use Rattle.packing.specs.declared.Pending.{Pending}
use Rattle.packing.specs.Packing.{packed, packed_length}
use Rattle.packing.specs.Written.{list_bits, Sound, Room}
use Rattle.least_cost.specs.Plan.{scan, greedy_plan}
use Rattle.cutting.specs.Task.{largest_count, map_task}
use Rattle.planning.specs.declared.plan.Packed.{Packed}

-- the list of two maps from register i on: it touches the registers of the first, and its transactions go on over those of the second; with the wanted
-- bytes
abbrev pub list_from : ℕ → ℕ → List ℕ → ℕ → List Transaction
list_from taken goes wanted i =
    scan (map_task (length wanted) taken taken 0 map_width) (λ k x s. has goes x) (λ r. get_or wanted r 0) (length wanted - i) i

-- and from the first register on
abbrev pub list_of : ℕ → ℕ → List ℕ → List Transaction
list_of taken goes wanted = list_from taken goes wanted 0

-- the registers of a map but those of another: those that transactions go on over, where the maps are those that they touch and those that they start at
abbrev pub without : ℕ → ℕ → ℕ
without taken starts = bit_and taken (complement starts)

-- two maps are those of a list with the wanted bytes, of the registers that it touches and of those that its transactions start at: the list of the maps is
-- that list, and they count its transactions and its data
pub record Mapped (ts : List Transaction) (wanted : List ℕ) (taken starts goes : ℕ) : Type 0 where
  pub list : list_of taken goes wanted ≡ ts
  pub inside : (i : ℕ) → has taken i ≡ true → i < length wanted
  pub over : (i : ℕ) → has goes i ≡ true → has taken i ≡ true
  pub transactions : length (list_of taken goes wanted) ≡ ones starts
  pub bytes : data_count (list_of taken goes wanted) ≡ ones taken
  pub few : ones starts ≤ length wanted
  pub short : ones taken ≤ length wanted

-- the list of two maps can be packed after what is written and pending: its registers have wanted bytes, no more than a count can hold, and the lent plan
-- has room for it
pub record Packable (taken goes : ℕ) (wanted plan : List ℕ) (first : Pending) : Type 0 where
  pub inside : (i : ℕ) → has taken i ≡ true → i < length wanted
  pub over : (i : ℕ) → has goes i ≡ true → has taken i ≡ true
  pub small : length wanted ≤ largest_count
  pub sound : Sound first
  pub room : Room plan first (length (list_bits (list_of taken goes wanted)))

-- the plan of two maps where no limit is in force: it writes the needed registers, and joins gaps of one and two registers that may be written; with the
-- wanted bytes
abbrev pub joined_by : ℕ → ℕ → List ℕ → List Transaction
joined_by needed allowed wanted =
    greedy_plan (map_task (length wanted) needed allowed 0 map_width) (has allowed) (λ r. get_or wanted r 0)

-- it can be packed after a transaction at a subaddress: the needed registers may be written, each that may be written has a wanted byte, and
-- the numbers of both are no more than a packed plan can hold
pub record Joinable (subaddress : ℕ) (bytes : List ℕ) (needed allowed : ℕ) (wanted : List ℕ) : Type 0 where
  pub writable : (i : ℕ) → has needed i ≡ true → has allowed i ≡ true
  pub inside : (i : ℕ) → has allowed i ≡ true → i < length wanted
  pub small : length wanted < largest_count
  pub start : subaddress ≤ largest_count
  pub short : length bytes ≤ largest_count

-- the numbers of a packed list: its bytes, its transactions, and its bus bytes
pub record Counts : Type 0 where
  pub length : ℕ
  pub transactions : ℕ
  pub bus_bytes : ℕ

-- counted from the list
abbrev pub counts_of : List Transaction → Counts
counts_of ts = record { length = length (packed ts); transactions = length ts; bus_bytes = bus_bytes ts }

-- what packing a list into a lent plan of that many bytes answers
abbrev pub packing_of : List Transaction → ℕ → Verdict Counts
packing_of ts room = cond (leb (length (packed ts)) room) (good (counts_of ts)) (refused_at 10 0)

-- the lent plan after an answer: the packed list, and what was past it; as it was after a refusal
abbrev pub packed_left : List Transaction → List ℕ → Verdict Counts → List ℕ
packed_left ts plan v = left_by plan (packed ts ++ drop (length (packed ts)) plan) v

-- the lent plan after packing a list into it
abbrev pub plan_after : List Transaction → List ℕ → List ℕ
plan_after ts plan = packed_left ts plan (packing_of ts (length plan))

-- a plan of that many bytes, transactions and bus bytes
abbrev pub done : ℕ → ℕ → ℕ → Verdict Counts
done bytes transactions cost = good (record { length = bytes; transactions = transactions; bus_bytes = cost })

-- the answer as document 01 has it
abbrev pub answer_of : Result Packed Fault → Verdict Counts
answer_of (Ok p) = done p.length p.transactions p.bus_bytes
answer_of (Err e) = refused_at (number_of e.refusal) e.field

-- more than the transactions and the data bytes of a plan can be
abbrev pub most_number : ℕ
most_number = 1000

-- what is answered for a plan with that many transactions and data bytes in a lent plan of that many bytes
abbrev pub numbers_of : ℕ → ℕ → ℕ → Verdict Counts
numbers_of transactions bytes room =
    cond (leb (packed_length transactions bytes) room) (done (packed_length transactions bytes) transactions (cost_of transactions bytes)) (refused_at 10 0)
