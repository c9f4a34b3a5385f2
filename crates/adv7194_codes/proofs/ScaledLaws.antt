-- A setting times a ratio, by signed division: the quotient is the nearest whole number, with the setting's sign. And which ranges stay small. Assumes nothing.
use mathlib.Core.Path.{◌≡◌, refl, sym, ap, ◌∙◌}
use mathlib.Core.Bool.{true, false, ◌||◌}
use Prim.Native.Nat.{ℕ, zero, suc, ◌+◌, ◌*◌, ◌/◌, ◌^◌, ◌≤◌, ◌<◌}
use native.Mathlib.Nat.{div-add-mod', mod-lt, div-le_self, zero-div, lt_of_not-le, mul-le-mul_left, mul-le-mul_right, mul-zero, zero-mul, zero-lt-suc}
use native.Mathlib.Omega.{arith}
use lib.Dec.{ltb}
use lib.IntN.{ℤ, pos, negsuc, neg_ℤ, nat_abs, ◌+ℤ◌, ◌-ℤ◌, ◌*ℤ◌, pos-*ℤ-pos, pos-*ℤ-negsuc}
use lib.Signed.{lt_z, quot_z}
use mir.Syntax.{w32}
use mir.Val.{to_z, SFits}
use mir.ValLaws.{to_z-of_z}
use borrow.Author.Tests.{le-ltb, ltb-true, ltb-false}
use Rattle.std.proofs.lemmas.Int.{ints}
use Rattle.rounding.specs.Nearest.{nearest, Nearest, LeastMultiple}
use Rattle.rounding.proofs.Range.{back}
use Rattle.rounding.proofs.Rounding.{nearest-is, nearest-only}
use Rattle.field_table.specs.Coding.{nearest_times}
use Rattle.field_table.proofs.Judging.{neither_l}
use Rattle.field_table.proofs.Signed.{as_signed}
use Rattle.adv7194_codes.specs.Signs.{with_sign}

-- ---- magnitudes with a sign

-- a small one fits
pub signed_fits : (z : ℤ) (x : ℕ) → x < 2 ^ 31 → SFits w32 (with_sign z x)
signed_fits (pos n) x h = record { sfits = h }
signed_fits (negsuc n) zero h = record { sfits = omega arith }
signed_fits (negsuc n) (suc x) h = record { sfits = omega arith }

-- a product has the magnitudes' product
product_is : (n : ℕ) (z : ℤ) → pos n *ℤ z ≡ with_sign z (n * nat_abs z)
product_is n (pos m) = pos-*ℤ-pos n m
product_is n (negsuc m) = pos-*ℤ-negsuc n m

-- as the machine makes it
pub product-made : (n : ℕ) (z : ℤ) → n < 2 ^ 31 → n * nat_abs z < 2 ^ 31 → SFits w32 z
    → back w32 (to_z w32 n *ℤ back w32 z) ≡ with_sign z (n * nat_abs z)
product-made n z h small f =
    rw (as_signed n h, to_z-of_z w32 z f, product_is n z) (to_z-of_z w32 (with_sign z (n * nat_abs z)) (signed_fits z (n * nat_abs z) small))

-- a half taken from a negative one, and added to another
pub moved_down : (z : ℤ) (x h : ℕ) → lt_z (with_sign z x) (pos 0) ≡ true → with_sign z x -ℤ pos h ≡ with_sign z (x + h)
moved_down (pos n) x h t = absurd (omega (arith, ltb-true x 0 t))
moved_down (negsuc n) zero h t = let z : ◌≡◌ {A = ℕ} 0 1 = cc in absurd (omega arith)
moved_down (negsuc n) (suc x) h t = omega (arith, ints)

pub moved-up : (z : ℤ) (x h : ℕ) → lt_z (with_sign z x) (pos 0) ≡ false → (0 < nat_abs z → 0 < x) → with_sign z x +ℤ pos h ≡ with_sign z (x + h)
moved-up (pos n) x h t p = omega (arith, ints)
moved-up (negsuc n) zero h t p = absurd (omega (arith, p (omega arith)))
moved-up (negsuc n) (suc x) h t p = let z : ◌≡◌ {A = ℕ} 0 1 = cc in absurd (omega arith)

-- a quotient
quotient_is : (z : ℤ) (x d : ℕ) → quot_z (with_sign z x) (pos d) ≡ with_sign z (x / d)
quotient_is (pos n) x d = refl
quotient_is (negsuc n) zero d = rw (zero-div d)
quotient_is (negsuc n) (suc x) d = refl

-- ---- the nearest whole number

-- the quotient of a number moved up by half the denominator
halfway : (n d : ℕ) → 0 < d → Nearest n d ((n + d / 2) / d)
halfway n d h =
    let whole = div-add-mod' (n + d / 2) d in
    let rest = mod-lt (n + d / 2) h in
    record { under = omega (arith, whole, rest); over = omega (arith, whole) }

-- with the setting's sign
pub quotient-nearest : (n d : ℕ) (z : ℤ) → 0 < d → quot_z (with_sign z (n * nat_abs z + d / 2)) (pos d) ≡ nearest_times n d z
quotient-nearest n d z h = quotient_is z (n * nat_abs z + d / 2) d ∙ ap (with_sign z) (sym (found (n * nat_abs z))) ∙ same z
  where
    found : (x : ℕ) → nearest x d ≡ (x + d / 2) / d
    found x = nearest-only x d ((x + d / 2) / d) h (halfway x d h)

    same : (z : ℤ) → with_sign z (nearest (n * nat_abs z) d) ≡ nearest_times n d z
    same (pos m) = refl
    same (negsuc m) = refl

-- it fits
pub nearest-fits : (n d : ℕ) (z : ℤ) → 0 < d → n * nat_abs z + d < 2 ^ 31 → SFits w32 (nearest_times n d z)
nearest-fits n d z h small =
    rw (sym (quotient-nearest n d z h), quotient_is z (n * nat_abs z + d / 2) d)
    (signed_fits z ((n * nat_abs z + d / 2) / d) (omega (arith, small, div-le_self (n * nat_abs z + d / 2) d)))

-- a positive number times a setting that is not 0 is not 0
pub positive : (n m : ℕ) → 0 < n → 0 < m → 0 < n * m
positive n m h k = omega (arith, mul-le-mul_left n k)

-- ---- the least magnitude

-- it is small where the number of steps is
pub least-fits : (n d q r : ℕ) → 0 < n → n ≤ d → q * d < 2 ^ 30 → LeastMultiple n d q r → r < 2 ^ 31
least-fits n d zero r h l small least =
    let none = nearest-only (n * 0) d 0 (omega arith) (record { under = omega (arith, mul-zero n, zero-mul d); over = omega (arith, zero-mul d) }) in
    omega (arith, least.least 0 none)
least-fits n d (suc q) r h l small least =
    let under = (rw least.rounds at (nearest-is (n * r) d (omega arith))).under in
    omega (arith, under, mul-le-mul_right r h, mul-le-mul_right d (zero-lt-suc q), small)

-- what it is with a sign
pub magnitude_is : (r : ℕ) → nat_abs (neg_ℤ (pos r)) ≡ r
magnitude_is zero = refl
magnitude_is (suc r) = refl

pub sign_below : (s : ℤ) (r : ℕ) → lt_z s (pos 0) ≡ true → neg_ℤ (pos r) ≡ with_sign s (nat_abs (neg_ℤ (pos r)))
sign_below (pos n) r t = absurd (omega (arith, ltb-true n 0 t))
sign_below (negsuc n) r t = ap (λ (x : ℕ). neg_ℤ (pos x)) (sym (magnitude_is r))

pub sign-above : (s : ℤ) (r : ℕ) → lt_z s (pos 0) ≡ false → pos r ≡ with_sign s r
sign-above (pos n) r t = refl
sign-above (negsuc n) r t = let z : ◌≡◌ {A = ℕ} 0 1 = cc in absurd (omega arith)

-- ---- a range of settings, rounded

-- what settings up to hi are rounded to
at_most : (n d hi top m : ℕ) → 0 < d → 2 * (n * hi) + d < 2 * (suc top * d) → m ≤ hi → nearest (n * m) d ≤ top
at_most n d hi top m h fits l =
    omega (
      arith,
      lt_of_not-le (λ (b : suc top ≤ nearest (n * m) d).
          omega (arith, (nearest-is (n * m) d h).over, mul-le-mul_right d b, mul-le-mul_left n l, fits)),
    )

-- of a range about zero
pub rounded-in : (n d lo hi low high : ℕ) → 0 < d → 2 * (n * suc lo) + d < 2 * (suc (suc low) * d) → 2 * (n * hi) + d < 2 * (suc high * d)
    → (z : ℤ) → (lt_z z (negsuc lo) || lt_z (pos hi) z) ≡ false
    → (lt_z (nearest_times n d z) (negsuc low) || lt_z (pos high) (nearest_times n d z)) ≡ false
rounded-in n d lo hi low high h below above (pos m) o =
    le-ltb high (nearest (n * m) d) (at_most n d hi high m h above (ltb-false hi m o))
rounded-in n d lo hi low high h below above (negsuc m) o =
    by (nearest (n * suc m) d) (at_most n d (suc lo) (suc low) (suc m) h below (omega (arith, ltb-false lo m (neither_l (ltb lo m) false o))))
  where
    by : (k : ℕ) → k ≤ suc low → (lt_z (neg_ℤ (pos k)) (negsuc low) || lt_z (pos high) (neg_ℤ (pos k))) ≡ false
    by zero l = le-ltb high 0 (omega arith)
    by (suc k) l = rw (le-ltb low k (omega arith))
