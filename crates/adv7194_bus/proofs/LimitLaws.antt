-- A right limit lies between the shortest and the longest. Assumes nothing.
use mathlib.Core.Path.{◌≡◌, refl}
use mathlib.Core.Bool.{Bool, true, false, ◌&&◌}
use Prim.Native.Nat.{ℕ, ◌≤◌}
use native.Mathlib.Omega.{arith}
use lib.Dec.{leb}
use borrow.Author.Tests.{leb-true}
use Rattle.adv7194_bus.specs.Limit.{least_limit, no_limit, limit_right}

-- a right limit is not below 4 and not above 54
pub right-limit : (l : ℕ) → limit_right l ≡ true → (least_limit ≤ l) × (l ≤ no_limit)
right-limit l e = split (leb least_limit l) refl e
  where
    split : (b : Bool) → leb least_limit l ≡ b → (b && leb l no_limit) ≡ true → (least_limit ≤ l) × (l ≤ no_limit)
    split true p q = (leb-true least_limit l p, leb-true l no_limit q)
    split false p q = let z : ◌≡◌ {A = ℕ} 0 1 = cc in absurd (omega arith)
