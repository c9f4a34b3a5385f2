-- Document 01, "The bus and its three rules": a list goes by its bus bytes and then by its transactions, and is ascending. Document 02, P6: of lists as
-- cheap one is first by first start, first length (shorter first), second start and so on.
use Rattle.std.specs.Prelude.{◌≡◌, ◌⊎◌, List, [], ◌∷◌, ℕ, ◌-◌, ◌≤◌, ◌<◌, length, get_or}
use Rattle.bus.specs.Transactions.{Transaction, size, end, Touches, bus_bytes}

-- a list costs no more than another: fewer bus bytes, or as many and no more transactions
unfoldable pub NoDearer : List Transaction → List Transaction → Type 0
NoDearer a b = (bus_bytes a < bus_bytes b) ⊎ ((bus_bytes a ≡ bus_bytes b) × (length a ≤ length b))

-- the first list comes before the second: by first start, first length (shorter first), second start and so on; one that ends where the other goes on
-- comes first
abbrev pub Before : List Transaction → List Transaction → Type 0
Before ts [] = ⊥
Before [] (u ∷ us) = Unit {0}
Before (t ∷ ts) (u ∷ us) =
    (t.subaddress < u.subaddress)
    ⊎ ((t.subaddress ≡ u.subaddress) × ((size t < size u) ⊎ ((size t ≡ size u) × Before ts us)))

-- a list is the plan among some lists: it is one of them, none of them costs less, and every one that costs no more comes after it or is it. No other list
-- is (theorem `one-plan` of proofs/OnePlan.antt)
pub record IsPlan (Reaches : List Transaction → Type 0) (ts : List Transaction) : Type 0 where
  pub reaches : Reaches ts
  pub least : (us : List Transaction) → Reaches us → NoDearer ts us
  pub first : (us : List Transaction) → Reaches us → NoDearer us ts → Before ts us ⊎ (us ≡ ts)

-- the two lists have the same starts and lengths
abbrev pub SameSpans : List Transaction → List Transaction → Type 0
SameSpans [] [] = Unit {0}
SameSpans [] (u ∷ us) = ⊥
SameSpans (t ∷ ts) [] = ⊥
SameSpans (t ∷ ts) (u ∷ us) = (t.subaddress ≡ u.subaddress) × ((size t ≡ size u) × SameSpans ts us)

-- each transaction starts at or past i, and no earlier than the last one's end
abbrev pub Ascending : ℕ → List Transaction → Type 0
Ascending i [] = Unit {0}
Ascending i (t ∷ ts) = (i ≤ t.subaddress) × Ascending (end t) ts

-- the transaction's data are the wanted bytes of the registers that it touches
abbrev pub Holds : (ℕ → ℕ) → Transaction → Type 0
Holds want t = (x : ℕ) → Touches t x → get_or t.bytes (x - t.subaddress) 0 ≡ want x
