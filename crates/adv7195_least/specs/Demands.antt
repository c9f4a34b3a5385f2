-- Document 01, demand 3, and document 02, P13: of the lists that keep the rule and the order and end in the wanted image, of any length, in any order, overlap
-- and repetition, the plan has the fewest bus bytes and then the fewest transactions; ties are broken as in P6, by first start, first length (shorter first),
-- second start and so on, then by lower data. Demand 2 is in Played.
use Rattle.std.specs.Prelude.{◌≡◌, ◌⊎◌, List, ℕ, ◌≤◌, ◌<◌, length}
use Rattle.bus.specs.Transactions.{Transaction, bus_bytes}
use Rattle.least_cost.specs.Order.{IsPlan}
use Rattle.adv7195_least.specs.Reaching.{Reaches}

-- no list that keeps the rule and the order and ends in the wanted image has fewer bus bytes, or as many and fewer transactions
unfoldable pub Least : List ℕ → List ℕ → ℕ → ℕ → Type 0
Least image wanted transactions bytes =
    (own pointer : ℕ) (us : List Transaction) → Reaches own pointer image wanted us
    → (bytes < bus_bytes us) ⊎ ((bytes ≡ bus_bytes us) × (transactions ≤ length us))

-- the list is the plan: it keeps the rule and the order and ends in the wanted image, no such list costs less, and every one that costs no more comes after
-- it by starts and lengths, or is it: so lower data never decide
unfoldable pub First : List ℕ → List ℕ → List Transaction → Type 0
First image wanted ts = (own pointer : ℕ) → IsPlan (Reaches own pointer image wanted) ts

-- the most bytes that a packed plan has (theorem `plan-room` of proofs/Packed.antt), and no fewer are enough (theorem `room-least` of proofs/PlanCases.antt)
abbrev pub most_bytes : ℕ
most_bytes = 41
