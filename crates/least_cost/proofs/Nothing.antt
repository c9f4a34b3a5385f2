-- Where no register is needed the plan is empty. Assumes nothing.
use mathlib.Core.Path.{◌≡◌, refl}
use mathlib.Core.Bool.{false}
use mathlib.Core.List.{[]}
use Prim.Native.Nat.{ℕ, zero, suc}
use Rattle.least_cost.specs.Task.{Task}
use Rattle.least_cost.specs.Plan.{Choice, scan}

-- a scan of registers of which none is needed has no transaction
pub scan_nothing : (p : Task) (goes : Choice) (want : ℕ → ℕ) → ((r : ℕ) → p.need r ≡ false) → (k i : ℕ) → scan p goes want k i ≡ []
unfolding scan
scan_nothing p goes want none zero i = refl
scan_nothing p goes want none (suc k) i = rw (none i) (scan_nothing p goes want none k (suc i))
