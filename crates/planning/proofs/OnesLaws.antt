-- The run of registers that a map has from register 0 up, and from any register up. Assumes nothing.
use mathlib.Core.Path.{◌≡◌, sym, ap, ◌∙◌}
use mathlib.Core.Bool.{true, false, false≢true}
use Prim.Native.Nat.{ℕ, zero, suc, ◌+◌, ◌-◌, ◌/◌, ◌^◌, ◌≤◌, ◌<◌}
use native.Mathlib.Omega.{arith}
use lib.Count.{count_trailing_zeros}
use borrow.Author.Tests.{not-true, not-false}
use lib.Pow.{shr-shr, shr_le}
use Rattle.bits.specs.Maps.{map_width, has, complement}
use Rattle.bits.proofs.SetLaws.{has_shr, has-past, has_not}
use Rattle.cutting.proofs.LowestLaws.{first-is}

-- the registers of a run are in the map, and the one after it is not
pub record Ones (m size : ℕ) : Type 0 where
  pub short : size < 64
  pub all : (x : ℕ) → x < size → has m x ≡ true
  pub stop : has m size ≡ false

-- trailing ones find them
pub ones_are : (m size : ℕ) → m < 2 ^ 63 → size ≡ count_trailing_zeros map_width (complement m) → Ones m size
ones_are m size h e =
    let l = first-is (complement m) size (omega arith) (omega arith) e in
    let short = l.near in
    record {
      short = short;
      all = λ x k. not-false (has m x) (sym (has_not 64 m x (omega arith) (omega arith)) ∙ l.clear x k);
      stop = not-true (has m size) (sym (has_not 64 m size (omega arith) short) ∙ l.first);
    }

-- ---- the next run of a map, where f registers were passed and `rest` is the map of those that are left

pub record Next (m f rest gap size : ℕ) : Type 0 where
  pub short : size < 64
  pub some : 0 < size
  pub off : (x : ℕ) → f ≤ x → x < f + gap → has m x ≡ false
  pub on : (x : ℕ) → f + gap ≤ x → x < f + gap + size → has m x ≡ true
  pub stop : has m (f + gap + size) ≡ false
  pub after : rest / 2 ^ gap / 2 ^ size ≡ m / 2 ^ (f + gap + size)

-- trailing zeros and ones find it
pub next-is : (m f rest gap size : ℕ) → m < 2 ^ 63 → rest ≡ m / 2 ^ f → 0 < rest → gap ≡ count_trailing_zeros map_width rest
    → size ≡ count_trailing_zeros map_width (complement (rest / 2 ^ gap)) → Next m f rest gap size
next-is m f rest gap size h is p g z =
    let a = f + gap in
    let low : rest < 2 ^ 63 = omega (arith, shr_le m f) in
    let l = first-is rest gap p (omega arith) g in
    let r = ones_are (rest / 2 ^ gap) size (omega (arith, shr_le rest gap)) z in
    let at : (x : ℕ) → has rest x ≡ has m (f + x) = λ x. ap (λ (y : ℕ). has y x) is ∙ has_shr m f x in
    let from : (x : ℕ) → has (rest / 2 ^ gap) x ≡ has m (a + x) = λ x.
    ap (λ (y : ℕ). has (y / 2 ^ gap) x) is ∙ ap (λ (y : ℕ). has y x) (shr-shr m f gap) ∙ has_shr m a x in
    let first : has m a ≡ true = sym (at gap) ∙ l.first in
    record {
      short = r.short;
      some = positive (rest / 2 ^ gap) size (from 0 ∙ ap (has m) (omega arith) ∙ first) r.stop;
      off = λ x i j. ap (has m) (omega arith) ∙ sym (at (x - f)) ∙ l.clear (x - f) (omega arith);
      on = λ x i j. ap (has m) (omega arith) ∙ sym (from (x - a)) ∙ r.all (x - a) (omega arith);
      stop = sym (from size) ∙ r.stop;
      after = ap (λ (y : ℕ). y / 2 ^ gap / 2 ^ size) is ∙ ap (λ (y : ℕ). y / 2 ^ size) (shr-shr m f gap) ∙ shr-shr m a size;
    }
  where
    positive : (x n : ℕ) → has x 0 ≡ true → has x n ≡ false → 0 < n
    positive x zero i j = absurd (false≢true (sym j ∙ i))
    positive x (suc n) i j = omega arith

-- where no register is left, none is in the map
pub none_left : (m f : ℕ) → m / 2 ^ f ≡ 0 → (x : ℕ) → f ≤ x → has m x ≡ false
none_left m f e x i =
    ap (has m) (omega arith) ∙ sym (has_shr m f (x - f)) ∙ ap (λ (y : ℕ). has y (x - f)) e ∙ has-past 0 0 (x - f) (omega arith) (omega arith)
