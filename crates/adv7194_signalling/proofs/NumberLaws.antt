-- Signed settings: what it says of one that it is within 0 to top. Assumes nothing.
use mathlib.Core.Path.{◌≡◌, refl}
use mathlib.Core.Bool.{true, false}
use Prim.Native.Nat.{ℕ, suc, ◌%◌, ◌^◌, ◌≤◌, ◌<◌}
use native.Mathlib.Nat.{mod-lt, zero-lt-suc, le_of_suc-le-suc}
use native.Mathlib.Omega.{arith}
use lib.Dec.{T, eqb, leb}
use lib.IntN.{ℤ, pos, negsuc, nat_abs}
use lib.Signed.{lt_z, non_neg}
use mir.Syntax.{w32}
use mir.Val.{Fits, SFits}
use borrow.Author.Tests.{ltb-true, leb-true, le-leb}
use Rattle.field_table.specs.Blocks.{is, between}

-- no number is below 0
from_zero : (n : ℕ) → leb 0 n ≡ true
from_zero n = le-leb 0 n (omega arith)

-- a negative number is outside
pub negative-outside : (top : ℕ) (z : ℤ) → lt_z z (pos 0) ≡ true → false ≡ between 0 top z
negative-outside top (pos n) h = absurd (omega (arith, ltb-true n 0 h))
negative-outside top (negsuc n) h = refl

-- of one that is not, the number is tested
pub number-within : (top : ℕ) (z : ℤ) → lt_z z (pos 0) ≡ false → leb (nat_abs z) top ≡ between 0 top z
number-within top (pos n) h = rw (from_zero n)
number-within top (negsuc n) h = let z : ◌≡◌ {A = ℕ} 0 1 = cc in absurd (omega arith)

-- a signed number that is not negative can be cast to an unsigned one
pub castable : (z : ℤ) → SFits w32 z → lt_z z (pos 0) ≡ false → T (non_neg z) × Fits w32 (nat_abs z)
castable (pos n) fits h = (tt, record { fits = omega (arith, fits.sfits) })
castable (negsuc n) fits h = let z : ◌≡◌ {A = ℕ} 0 1 = cc in absurd (omega arith)

-- a number within 0 to top
pub record Within (top : ℕ) (z : ℤ) : Type 0 where
  pub sign : T (non_neg z)
  pub most : nat_abs z ≤ top

pub is_within : (top : ℕ) (z : ℤ) → between 0 top z ≡ true → Within top z
is_within top (pos n) h = record { sign = tt; most = leb-true n top (rw (from_zero n) at h) }
is_within top (negsuc n) h = let z : ◌≡◌ {A = ℕ} 0 1 = cc in absurd (omega arith)

-- and it can be cast
pub within_castable : {top : ℕ} {z : ℤ} → Within top z → top < 2 ^ 32 → T (non_neg z) × Fits w32 (nat_abs z)
within_castable w l = (w.sign, record { fits = omega (arith, w.most) })

-- a yes is a magnitude of 1
pub yes_is : (z : ℤ) → Within 1 z → eqb (nat_abs z) 1 ≡ is 1 z
yes_is (pos n) w = refl
yes_is (negsuc n) w = absurd w.sign

-- a remainder is within its divisor
pub rest-within : (n top : ℕ) → between 0 top (pos (n % suc top)) ≡ true
rest-within n top = rw (from_zero (n % suc top)) (le-leb (n % suc top) top (le_of_suc-le-suc (mod-lt n (zero-lt-suc top))))
