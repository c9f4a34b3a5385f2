-- Numbers that are the same under each of some masks are the same in each bit that one of the masks has, and equal where they have all bits. Assumes nothing.
use mathlib.Core.Path.{◌≡◌, refl, sym, ap, ◌∙◌}
use mathlib.Core.Bool.{Bool, true, false, not, false≢true, ◌&&◌, ◌||◌}
use mathlib.Core.List.{List, [], ◌∷◌}
use Prim.Native.Nat.{ℕ, ◌-◌, ◌^◌, ◌<◌}
use native.Mathlib.Nat.{sub-zero}
use native.Mathlib.Omega.{arith}
use lib.Bits.{bit_and, bit_or}
use lib.Pow.{pow_pos}
use Rattle.bits.specs.Maps.{has}
use Rattle.bits.proofs.SetLaws.{has_and, has_or, has-past, has_not, by_bits_lem}

-- the bits that some masks have
unfoldable pub all_masks : List ℕ → ℕ
all_masks [] = 0
all_masks (m ∷ ms) = bit_or m (all_masks ms)

-- two numbers are the same under each of some masks
abbrev pub SameUnder : ℕ → ℕ → List ℕ → Type 0
SameUnder x y [] = Unit {0}
SameUnder x y (m ∷ ms) = (bit_and x m ≡ bit_and y m) × SameUnder x y ms

-- 0 has no bit
none-set : (i : ℕ) → has 0 i ≡ false
none-set i = has-past 0 0 i (omega arith) (omega arith)

-- a bit of a mask is the same in two numbers that are the same under it
bit_kept : (x y m i : ℕ) → bit_and x m ≡ bit_and y m → has m i ≡ true → has x i ≡ has y i
bit_kept x y m i e h = under (has x i) (has y i) (sym (has_and x m i) ∙ ap (λ (z : ℕ). has z i) e ∙ has_and y m i) h
  where
    under : (p q : Bool) {t : Bool} → (p && t) ≡ (q && t) → t ≡ true → p ≡ q
    under true true e h = refl
    under false false e h = refl
    under true false {t} e h = sym h ∙ e
    under false true {t} e h = e ∙ h

-- and so is a bit of some masks
bit-same : (x y i : ℕ) (ms : List ℕ) → SameUnder x y ms → has (all_masks ms) i ≡ true → has x i ≡ has y i
unfolding all_masks
bit-same x y i [] s h = absurd (false≢true (sym (none-set i) ∙ h))
bit-same x y i (m ∷ ms) s h = pick (has m i) refl (bit-same x y i ms s.1)
  where
    pick : (t : Bool) → has m i ≡ t → (has (all_masks ms) i ≡ true → has x i ≡ has y i) → has x i ≡ has y i
    pick true e rest = bit_kept x y m i s.0 e
    pick false e rest = rest (ap (λ (b : Bool). b || has (all_masks ms) i) (sym e) ∙ sym (has_or m (all_masks ms) i) ∙ h)

-- numbers of w bits that are the same under masks that have all those bits are equal
pub same_number : (w x y : ℕ) (ms : List ℕ) → x < 2 ^ w → y < 2 ^ w → all_masks ms ≡ 2 ^ w - 1 → SameUnder x y ms → x ≡ y
same_number w x y ms a b e s = by_bits_lem w x y a b (λ i k. bit-same x y i ms s (ap (λ (m : ℕ). has m i) e ∙ set i k))
  where
    set : (i : ℕ) → i < w → has (2 ^ w - 1) i ≡ true
    set i k = ap (λ (m : ℕ). has m i) (sym (sub-zero (2 ^ w - 1))) ∙ has_not w 0 i (pow_pos w) k ∙ ap not (none-set i)
