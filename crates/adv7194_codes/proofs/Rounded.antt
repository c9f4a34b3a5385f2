-- The setting nearest zero of a code that was rounded: hue, and the thousandths of contrast and the scales. Assumes nothing.
use mathlib.Core.Path.{◌≡◌, refl, sym, ap, ◌∙◌, subst}
use mathlib.Core.Bool.{true, false, ◌||◌}
use mathlib.Core.Logic.{◌⊎◌, inl, inr}
use Prim.Native.Nat.{ℕ, zero, suc, ◌+◌, ◌-◌, ◌*◌, ◌^◌, ◌≤◌, ◌<◌}
use native.Mathlib.Nat.{lt_of_not-le, eq-or-lt_of_le, add-zero, zero-add, sub-zero}
use native.Mathlib.Omega.{arith}
use lib.Dec.{T, ltb}
use lib.IntN.{ℤ, pos, negsuc, neg_ℤ, nat_abs, ◌+ℤ◌}
use lib.Signed.{lt_z, non_neg}
use borrow.Author.Tests.{le-ltb, ltb-false}
use Rattle.refusals.specs.Refusal.{accepted, refused, value_or}
use Rattle.rounding.specs.Nearest.{nearest, Nearest, LeastMultiple}
use Rattle.rounding.proofs.Rounding.{nearest-is}
use Rattle.field_table.specs.declared.row.Row.{Row}
use Rattle.field_table.specs.Coding.{outside, code_of, code_by, encode, has, decode}
use Rattle.field_table.specs.Walk.{bits_fit}
use Rattle.adv7194_table.specs.Fields.{hue}
use Rattle.adv7194_codes.specs.Signs.{with_sign}
use Rattle.adv7194_codes.specs.Thousandths.{UpTo, in_thousandths}
use Rattle.field_table.proofs.Judging.{fits-inside, neither_l, neither_r}
use Rattle.field_table.proofs.Decoding.{NearestZero, has-inside, has_code, code-has, no_code, decode-found, decode-outside}

-- the number k below b
minus : (b k : ℕ) → k ≤ b → nat_abs (pos b +ℤ neg_ℤ (pos k)) ≡ b - k
minus b zero h = add-zero b ∙ sym (sub-zero b)
minus b (suc k) h = rw (le-ltb b (suc k) h)

-- a setting at least as far from zero is the same or further
further : (r j : ℕ) → r ≤ j → (pos j ≡ pos r) ⊎ (r < j)
further r j h = go (eq-or-lt_of_le h)
  where
    go : (r ≡ j) ⊎ (r < j) → (pos j ≡ pos r) ⊎ (r < j)
    go (inl e) = inl (ap pos (sym e))
    go (inr l) = inr l

-- ---- hue

-- how many steps a hue is rounded to, and that bounds both
steps : (j : ℕ) → Nearest (256 * j) 450 (nearest (256 * j) 450)
steps j = nearest-is (256 * j) 450 (omega arith)

-- a hue in the range below zero
below : (m : ℕ) → outside hue.row (negsuc m) ≡ false → m ≤ 224
below m o = ltb-false 224 m (neither_l (ltb 224 m) false o)

above : (n : ℕ) → outside hue.row (pos n) ≡ false → n ≤ 224
above n o = ltb-false 224 n o

code_below : (m : ℕ) → m ≤ 224 → code_of hue (negsuc m) ≡ 128 - nearest (256 * suc m) 450
unfolding code_by
code_below m h = minus 128 (nearest (256 * suc m) 450) (omega (arith, (steps (suc m)).over))

code-above : (n : ℕ) → code_of hue (pos n) ≡ 128 + nearest (256 * n) 450
unfolding code_by
code-above n = refl

-- the least hue of the steps of a code, above the middle and below it, is nearest zero of those that have the code
hue_up : (c r : ℕ) → 128 ≤ c → c < 256 → LeastMultiple 256 450 (c - 128) r → NearestZero hue c (pos r)
hue_up c r lo hi l = record {
  coded = code-has hue c (pos r) (le-ltb 224 r small) (code-above r ∙ omega (arith, l.rounds));
  only = only;
}
  where
    small : r ≤ 224
    small = omega (arith, l.rounds, (steps r).under)

    only : (z : ℤ) → has hue c z ≡ true → (z ≡ pos r) ⊎ (r < nat_abs z)
    only (pos n) h = further r n (l.least n (omega (arith, code-above n, has_code hue c (pos n) h)))
    only (negsuc m) h =
        absurd (omega (arith, code_below m (below m (has-inside hue c (negsuc m) h)), has_code hue c (negsuc m) h, (steps (suc m)).under))

hue_down : (c r : ℕ) → c < 128 → LeastMultiple 256 450 (128 - c) r → NearestZero hue c (neg_ℤ (pos r))
hue_down c zero hi l = absurd (omega (arith, l.rounds, (steps 0).over))
hue_down c (suc r) hi l = record {
  coded = code-has hue c (negsuc r) (rw (le-ltb 224 r small)) (code_below r small ∙ omega (arith, l.rounds));
  only = only;
}
  where
    small : r ≤ 224
    small = omega (arith, l.rounds, (steps (suc r)).under)

    same : (m : ℕ) → suc r ≤ suc m → (negsuc m ≡ negsuc r) ⊎ (suc r < suc m)
    same m h = go (eq-or-lt_of_le h)
      where
        go : (suc r ≡ suc m) ⊎ (suc r < suc m) → (negsuc m ≡ negsuc r) ⊎ (suc r < suc m)
        go (inl e) = let q : m ≡ r = omega arith in inl (ap negsuc q)
        go (inr k) = inr k

    only : (z : ℤ) → has hue c z ≡ true → (z ≡ negsuc r) ⊎ (suc r < nat_abs z)
    only (pos n) h = absurd (omega (arith, code-above n, has_code hue c (pos n) h))
    only (negsuc m) h =
        let q : m ≤ 224 = below m (has-inside hue c (negsuc m) h) in
        same m (l.least (suc m) (omega (arith, code_below m q, has_code hue c (negsuc m) h, (steps (suc m)).over)))

-- the hue nearest zero of a number of steps is what the code of that many steps from the middle is read as
pub hue-at : (s r : ℤ) → (lt_z s (neg_ℤ (pos 128)) || lt_z (pos 127) s) ≡ false → LeastMultiple 256 450 (nat_abs s) (nat_abs r)
    → r ≡ with_sign s (nat_abs r) → accepted r ≡ decode hue (nat_abs (pos 128 +ℤ s))
hue-at (pos q) r o l e =
    let small : q ≤ 127 = ltb-false 127 q o in
    let m : 128 + q - 128 ≡ q = omega arith in
    ap accepted e ∙ decode-found hue (128 + q) (pos (nat_abs r)) (hue_up (128 + q) (nat_abs r) (omega arith) (omega arith) (rw m l))
hue-at (negsuc q) r o l e =
    let small : q ≤ 127 = ltb-false 127 q (neither_l (ltb 127 q) false o) in
    let m : 128 - (128 - suc q) ≡ suc q = omega arith in
    rw (minus 128 (suc q) (omega arith))
    (ap accepted e ∙ decode-found hue (128 - suc q) (neg_ℤ (pos (nat_abs r))) (hue_down (128 - suc q) (nat_abs r) (omega arith) (rw m l)))

-- the code of a hue is a byte
pub hue-fits : (z : ℤ) → value_or 0 (encode hue z) < 2 ^ 8
hue-fits = fits-inside hue byte
  where
    byte : (z : ℤ) → outside hue.row z ≡ false → code_of hue z < 2 ^ 8
    byte (pos n) o = omega (arith, code-above n, above n o, (steps n).over)
    byte (negsuc m) o = omega (arith, code_below m (below m o))

-- ---- thousandths

parts : (j : ℕ) → Nearest (128 * j) 1000 (nearest (128 * j) 1000)
parts j = nearest-is (128 * j) 1000 (omega arith)

-- the least setting of any code is a small number
pub least-small : (c q : ℕ) → c < 256 → LeastMultiple 128 1000 c q → q ≤ 1996
least-small c q h l = omega (arith, l.rounds, (parts q).under)

-- a setting of a row, with its code
pub record Scaled (r : Row) (z : ℤ) : Type 0 where
  pub positive : T (non_neg z)
  pub bound : nat_abs z ≤ 1996
  pub code : nearest (128 * nat_abs z) 1000 ≡ code_of (in_thousandths r) z
  pub byte : nearest (128 * nat_abs z) 1000 < 256

module _ (r : Row) (to : UpTo 1996 r) where
  code_at : (n : ℕ) → code_of (in_thousandths r) (pos n) ≡ nearest (128 * n) 1000
  unfolding code_by
  code_at n = zero-add (nearest (128 * n) 1000)

  -- no setting in the range is negative
  never : (m : ℕ) → outside r (negsuc m) ≡ false → ⊥
  never m o = subst T (rw to.low at o) tt

  -- a number in the range is at most the highest setting, and one outside it is above
  at_most : (n : ℕ) → outside r (pos n) ≡ false → n ≤ nat_abs r.high
  at_most n o =
      let t : (ltb n 0 || ltb (nat_abs r.high) n) ≡ false = rw (to.low, to.high) at o in
      ltb-false (nat_abs r.high) n (neither_r (ltb n 0) (ltb (nat_abs r.high) n) t)

  above-all : (n : ℕ) → outside r (pos n) ≡ true → nat_abs r.high < n
  above-all n o = lt_of_not-le (λ (h : n ≤ nat_abs r.high). subst T (sym o ∙ inside n h) tt)
    where
      inside : (n : ℕ) → n ≤ nat_abs r.high → outside r (pos n) ≡ false
      inside n h = rw (to.low, to.high, le-ltb n 0 (omega arith), le-ltb (nat_abs r.high) n h)

  pub scaled : (z : ℤ) → outside r z ≡ false → Scaled r z
  scaled (pos n) o =
      let small = at_most n o in
      record { positive = tt; bound = omega (arith, to.most); code = sym (code_at n); byte = omega (arith, to.most, (parts n).over) }
  scaled (negsuc m) o = absurd (never m o)

  -- the least setting of a code is what the code is read as
  pub read_least : (c q : ℕ) → outside r (pos q) ≡ false → LeastMultiple 128 1000 c q → accepted (pos q) ≡ decode (in_thousandths r) c
  read_least c q o l =
      decode-found (in_thousandths r) c (pos q) (record { coded = code-has (in_thousandths r) c (pos q) o (code_at q ∙ l.rounds); only = only })
    where
      only : (z : ℤ) → has (in_thousandths r) c z ≡ true → (z ≡ pos q) ⊎ (q < nat_abs z)
      only (pos n) e = further q n (l.least n (sym (code_at n) ∙ has_code (in_thousandths r) c (pos n) e))
      only (negsuc m) e = absurd (never m (has-inside (in_thousandths r) c (negsuc m) e))

  -- where it is none of the row's, no setting has the code
  pub read_none : (c q : ℕ) → outside r (pos q) ≡ true → LeastMultiple 128 1000 c q → refused 3 ≡ decode (in_thousandths r) c
  read_none c q o l = decode-outside (in_thousandths r) c to.outside none
    where
      none : (z : ℤ) → has (in_thousandths r) c z ≡ false
      none (pos n) =
          no_code (in_thousandths r) c (pos n) (λ i e.
          omega (arith, at_most n i, above-all q o, l.least n (sym (code_at n) ∙ e)))
      none (negsuc m) = no_code (in_thousandths r) c (negsuc m) (λ i e. never m i)

  -- its code is a byte
  pub thousandths_fit : (z : ℤ) → value_or 0 (encode (in_thousandths r) z) < 2 ^ r.width
  unfolding code_by
  thousandths_fit = fits-inside (in_thousandths r) (λ z o. let s = scaled z o in rw (to.width, sym s.code) s.byte)

  -- its bits lie within the register
  pub thousandths-bits : T (bits_fit r)
  thousandths-bits = rw (to.bit, to.width) tt
