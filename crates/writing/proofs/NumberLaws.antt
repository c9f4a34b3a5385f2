-- Laws of numbers as text: the most bytes that a signed number takes, and which numbers are written as bytes. Assumes nothing.
use mathlib.Core.Path.{◌≡◌, refl}
use mathlib.Core.Bool.{true, false}
use Prim.Native.Nat.{ℕ, suc, ◌≤◌, ◌<◌}
use native.Mathlib.Omega.{arith}
use lib.Dec.{T}
use lib.IntN.{ℤ, pos, negsuc, nat_abs}
use lib.ListN.{length}
use lib.Signed.{non_neg, lt_z}
use mir.Syntax.{w8, w32}
use mir.Val.{SFits, Fits}
use borrow.Author.Tests.{ltb-true, ltb-false, lt-ltb, le-ltb}
use Rattle.text.specs.Text.{signed, hex_byte}
use Rattle.text.proofs.Numerals.{decimal-most}
use Rattle.writing.specs.Codes.{code}

-- a signed number of 32 bits takes at most a sign and ten digits
pub signed-most : (z : ℤ) → SFits w32 z → length (signed z) ≤ 11
unfolding signed
signed-most (pos n) h = omega (arith, decimal-most 9 n (omega (arith, h.sfits)))
signed-most (negsuc n) h = omega (arith, decimal-most 9 (suc n) (omega (arith, h.sfits)))

-- a number below 0 is no byte
pub code-negative : (z : ℤ) → lt_z z (pos 0) ≡ true → signed z ≡ code z
unfolding code
code-negative (pos n) e = absurd (omega (arith, ltb-true n 0 e))
code-negative (negsuc n) e = refl

-- nor is one above 255
pub code_large : (z : ℤ) → lt_z (pos 255) z ≡ true → signed z ≡ code z
unfolding code
code_large (pos n) e = rw (le-ltb n 256 (omega (arith, ltb-true 255 n e)))
code_large (negsuc n) e = let z : ◌≡◌ {A = ℕ} 0 1 = cc in absurd (omega arith)

-- any other is
pub code-byte : (z : ℤ) → lt_z z (pos 0) ≡ false → lt_z (pos 255) z ≡ false → (T (non_neg z) × Fits w8 (nat_abs z)) × (hex_byte (nat_abs z) ≡ code z)
unfolding code
code-byte (pos n) e f =
    let small : n < 256 = omega (arith, ltb-false 255 n f) in
    ((tt, record { fits = small }), rw (lt-ltb n 256 small))
code-byte (negsuc n) e f = let z : ◌≡◌ {A = ℕ} 0 1 = cc in absurd (omega arith)
