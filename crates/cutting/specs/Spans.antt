-- Document 01, "Which form to use where": needed registers are a map. The transactions of a list are two maps: the registers that they touch, and those
-- at which they start.
use Rattle.std.specs.Prelude.{◌≡◌, Bool, false, ◌||◌, List, [], ◌∷◌, ℕ, eqb}
use Rattle.bits.specs.Maps.{has}
use Rattle.bus.specs.Transactions.{Transaction, touches}

-- whether a transaction of the list touches register x
unfoldable pub touched : List Transaction → ℕ → Bool
touched [] x = false
touched (t ∷ ts) x = touches t x || touched ts x

-- whether one starts at register x
unfoldable pub begun : List Transaction → ℕ → Bool
begun [] x = false
begun (t ∷ ts) x = eqb t.subaddress x || begun ts x

-- two maps are those of a list, but for the transactions that are left of it
pub record MapsSoFar (ts rest : List Transaction) (taken starts : ℕ) : Type 0 where
  pub touches : (x : ℕ) → touched ts x ≡ (has taken x || touched rest x)
  pub begins : (x : ℕ) → begun ts x ≡ (has starts x || begun rest x)
