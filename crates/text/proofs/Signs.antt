-- The text of a signed number by its sign.
use mathlib.Core.Path.{◌≡◌, refl}
use mathlib.Core.Bool.{true, false}
use mathlib.Core.List.{◌∷◌}
use Prim.Native.Nat.{ℕ}
use native.Mathlib.Nat.{not-suc-le-zero}
use native.Mathlib.Omega.{arith}
use lib.IntN.{ℤ, pos, negsuc, nat_abs}
use lib.Signed.{lt_z}
use borrow.Author.Tests.{ltb-true}
use Rattle.text.specs.Text.{decimal, signed}

-- the text of a negative number is a minus sign and its magnitude
pub signed-negative : (z : ℤ) → lt_z z (pos 0) ≡ true → 0x2d ∷ decimal (nat_abs z) ≡ signed z
unfolding signed
signed-negative (pos n) e = absurd (not-suc-le-zero (ltb-true n 0 e))
signed-negative (negsuc n) e = refl

-- the text of any other number is its magnitude
pub signed_positive : (z : ℤ) → lt_z z (pos 0) ≡ false → decimal (nat_abs z) ≡ signed z
unfolding signed
signed_positive (pos n) e = refl
signed_positive (negsuc n) e = let z : ◌≡◌ {A = ℕ} 0 1 = cc in absurd (omega arith)
