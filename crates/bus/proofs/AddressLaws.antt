-- A right address is at no fault, and any other is; no right address is one at which a chip is read. Assumes nothing.
use mathlib.Core.Path.{◌≡◌, refl}
use mathlib.Core.Logic.{◌≢◌, inl, inr, ⊎_elim}
use mathlib.Core.Bool.{Bool, true, false, ◌&&◌}
use Prim.Native.Nat.{ℕ, ◌+◌, ◌%◌, ◌≤◌}
use native.Mathlib.Omega.{arith}
use lib.Dec.{leb, eqb}
use borrow.Author.Tests.{leb-true, leb-false, eqb-true, eqb-false}
use Rattle.bus.specs.Address.{AddressFault, address_right}

-- a right address is not above 254, and it is even
pub right-address : (a : ℕ) → address_right a ≡ true → (a ≤ 254) × (a % 2 ≡ 0)
right-address a e = split (leb a 254) refl e
  where
    split : (b : Bool) → leb a 254 ≡ b → (b && eqb (a % 2) 0) ≡ true → (a ≤ 254) × (a % 2 ≡ 0)
    split true p q = (leb-true a 254 p, eqb-true (a % 2) 0 q)
    split false p q = let z : ◌≡◌ {A = ℕ} 0 1 = cc in absurd (omega arith)

-- it is at no fault
pub no_address_fault : (a : ℕ) → address_right a ≡ true → AddressFault a → ⊥
no_address_fault a e f = let r = right-address a e in ⊎_elim (λ p. omega (arith, r.1)) (λ p. omega (arith, r.0)) f

-- another is
pub an_address_fault : (a : ℕ) → address_right a ≡ false → AddressFault a
an_address_fault a e = go (leb a 254) refl (eqb (a % 2) 0) refl e
  where
    go : (x : Bool) → leb a 254 ≡ x → (y : Bool) → eqb (a % 2) 0 ≡ y → (x && y) ≡ false → AddressFault a
    go true p true q f = let z : ◌≡◌ {A = ℕ} 0 1 = cc in absurd (omega arith)
    go true p false q f = let odd = eqb-false (a % 2) 0 q in inl (omega arith)
    go false p y q f = inr (leb-false a 254 p)

-- two right addresses are even: neither is one more than the other, as the address is at which a chip is read
pub not_read : (used own : ℕ) → address_right used ≡ true → address_right own ≡ true → used ≢ own + 1
not_read used own e f p = omega (arith, (right-address used e).1, (right-address own f).1)
