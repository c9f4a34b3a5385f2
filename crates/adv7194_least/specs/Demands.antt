-- Document 01, demand 3: of the lists that keep the rules and end in the wanted image, the plan is the ascending one of fewest bus bytes and then fewest
-- transactions; a single claim about whole lists, of any length, with any number of data, none too. Document 02, P6: the lists keep the limit too, and of
-- those as cheap the plan is the first by first start, first length (shorter first), second start and so on. Demand 2 is in Played.
use Rattle.std.specs.Prelude.{◌≡◌, ◌⊎◌, List, ℕ, ◌≤◌, ◌<◌, length}
use Rattle.bus.specs.Transactions.{Transaction, bus_bytes, size}
use Rattle.least_cost.specs.Order.{NoDearer, Ascending, IsPlan}
use Rattle.adv7194_bus.specs.Limit.{no_limit}
use Rattle.adv7194_least.specs.Aim.{Aim}
use Rattle.adv7194_least.specs.Plan.{plan_of}
use Rattle.adv7194_least.specs.Reaching.{Reaches}
use Rattle.bits.specs.Lists.{Every}

-- demand 3: no list that keeps the rules and ends in the wanted image has fewer bus bytes, or as many and fewer transactions
unfoldable pub Least : Aim → ℕ → ℕ → Type 0
Least a transactions bytes =
    (own pointer : ℕ) (us : List Transaction) → Reaches own pointer a us
    → (bytes < bus_bytes us) ⊎ ((bytes ≡ bus_bytes us) × (transactions ≤ length us))

-- the list is the plan: it keeps the rules and ends in the wanted image, no such list costs less, and every one that costs no more, in any order, overlap and
-- repetition, comes after it or is it
unfoldable pub First : Aim → List Transaction → Type 0
First a ts = (own pointer : ℕ) → IsPlan (Reaches own pointer a) ts

-- the same aim without a limit
abbrev pub unlimited : Aim → Aim
unlimited a = record { board = a.board; wanted = a.wanted; fixes = a.fixes; limit = no_limit }

-- no run of registers is longer than the limit: the plan without a limit keeps it
abbrev pub RunsWithin : Aim → Type 0
RunsWithin a = Every (λ (t : Transaction). size t ≤ a.limit) (plan_of (unlimited a))

-- where no run is longer than the limit, and so with 54, every ascending one that costs no more is the list
pub record Only (a : Aim) (ts : List Transaction) : Type 0 where
  pub ascending : RunsWithin a → (own pointer : ℕ) (us : List Transaction) → Ascending 0 us → Reaches own pointer a us → NoDearer us ts → us ≡ ts
  pub unlimited : a.limit ≡ no_limit → RunsWithin a

-- the most bits, and the most bytes, that a packed plan has, whatever the limit (theorems `plan-bits` and `plan-room` of proofs/Room.antt)
abbrev pub most_bits : ℕ
most_bits = 422

abbrev pub most_bytes : ℕ
most_bytes = 53

-- from this limit on the longest run of registers with a field or a must-be-zero bit, 1D to 33, is one transaction
abbrev pub wide_limit : ℕ
wide_limit = 23

-- and these are the most bits and bytes of a packed plan (theorems `wide_bits_lem` and `wide_room`)
abbrev pub wide_bits : ℕ
wide_bits = 350

abbrev pub wide_bytes : ℕ
wide_bytes = 44
