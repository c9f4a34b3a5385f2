-- What a list that reaches the aim keeps, transaction by transaction, by name.
use mathlib.Core.Path.{◌≡◌}
use mathlib.Core.Bool.{true}
use Prim.Native.Nat.{ℕ, ◌≤◌}
use Rattle.bus.specs.Transactions.{Transaction, size, Touches}
use Rattle.adv7194_least.specs.Aim.{Aim, compared}

-- a transaction touches no unknown register that isn't needed
abbrev pub Clear : Aim → Transaction → Type 0
Clear a t = (r : ℕ) → Touches t r → compared a r ≡ true

-- a transaction has no more data than a limit
abbrev pub Within : ℕ → Transaction → Type 0
Within limit t = size t ≤ limit
