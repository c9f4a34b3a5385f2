-- Odd parity over the width: the parity bit makes the ones odd in number, keeps the bits below it, and is the only one that does. Assumes nothing.
use mathlib.Core.Path.{◌≡◌, refl, sym, ap, ap₂, ◌∙◌}
use mathlib.Core.Bool.{Bool, true, false, xor, true≢false}
use mathlib.Core.Logic.{◌⊎◌, inl, inr}
use Prim.Native.Nat.{ℕ, zero, suc, ◌+◌, ◌*◌, ◌/◌, ◌%◌, ◌^◌, ◌<◌}
use native.Mathlib.Nat.{mod-lt, mod-eq_of_lt, div-eq_of_lt, div-one, pow-suc}
use native.Mathlib.Numerals.{one-add}
use native.Mathlib.Omega.{arith}
use lib.Count.{ones_in, ones}
use lib.Dec.{eqb}
use lib.Pow.{pow_pos, high, low, split, shr_lt}
use Rattle.bits.specs.Strings.{lsb_first}
use Rattle.bits.specs.Parity.{odd_ones, odd_in, with_parity}
use Rattle.bits.proofs.DigitLaws.{digit, half_shr}
use Rattle.bits.proofs.StringLaws.{lsb_low}
use Rattle.bits.proofs.MapLaws.{ones_in_lem}

-- ---- the count of ones

-- a sum is odd where one of its two parts is
odd_sum : (a b : ℕ) → eqb ((a + b) % 2) 1 ≡ xor (eqb (a % 2) 1) (eqb (b % 2) 1)
unfolding xor
odd_sum a b = go (digit a) (digit b)
  where
    go : (a % 2 ≡ 0) ⊎ (a % 2 ≡ 1) → (b % 2 ≡ 0) ⊎ (b % 2 ≡ 1) → eqb ((a + b) % 2) 1 ≡ xor (eqb (a % 2) 1) (eqb (b % 2) 1)
    go (inl p) (inl q) = let s : (a + b) % 2 ≡ 0 = omega arith in rw (s, p, q)
    go (inl p) (inr q) = let s : (a + b) % 2 ≡ 1 = omega arith in rw (s, p, q)
    go (inr p) (inl q) = let s : (a + b) % 2 ≡ 1 = omega arith in rw (s, p, q)
    go (inr p) (inr q) = let s : (a + b) % 2 ≡ 0 = omega arith in rw (s, p, q)

-- the count of the ones among w digits is odd where the definition says so
odd_digits : (w n : ℕ) → eqb (ones_in w n % 2) 1 ≡ odd_in w n
unfolding ones_in odd_ones lsb_first
odd_digits zero n = refl
odd_digits (suc w) n =
    let d : n % 2 % 2 ≡ n % 2 = omega arith in
    odd_sum (n % 2) (ones_in w (n / 2)) ∙ ap₂ (λ (x : ℕ) (y : Bool). xor (eqb x 1) y) d (odd_digits w (n / 2))

-- and so is the machine's count
pub odd_count : (w n : ℕ) → eqb (ones (n % 2 ^ w) % 2) 1 ≡ odd_in w n
odd_count w n =
    ap (λ (x : ℕ). eqb (x % 2) 1) (sym (ones_in_lem w (n % 2 ^ w) (mod-lt n (pow_pos w)))) ∙ odd_digits w (n % 2 ^ w) ∙ ap odd_ones (lsb_low w n)

-- ---- the bit above

-- one digit more adds itself
ones_more : (w n : ℕ) → ones_in (suc w) n ≡ ones_in w n + n / 2 ^ w % 2
unfolding ones_in
ones_more zero n = rw div-one (omega arith)
ones_more (suc w) n = rw (← half_shr) (omega (arith, ones_more w (n / 2)))

-- so it turns the answer where it is set
odd_more : (w b : ℕ) → odd_in (suc w) b ≡ xor (odd_in w b) (eqb (b / 2 ^ w % 2) 1)
odd_more w b =
    let d : b / 2 ^ w % 2 % 2 ≡ b / 2 ^ w % 2 = omega arith in
    sym (odd_digits (suc w) b) ∙ ap (λ (x : ℕ). eqb (x % 2) 1) (ones_more w b) ∙ odd_sum (ones_in w b) (b / 2 ^ w % 2)
    ∙ ap₂ (λ (x : Bool) (y : ℕ). xor x (eqb y 1)) (odd_digits w b) d

-- ---- the parity bit

-- a number whose ones are odd in number is left as it is
pub parity_clear : (w v : ℕ) → odd_in w v ≡ true → with_parity w v ≡ v
unfolding with_parity
parity_clear w v o = rw o

-- and one whose ones are even in number gets bit w
pub parity_set : (w v : ℕ) → odd_in w v ≡ false → with_parity w v ≡ v + 2 ^ w
unfolding with_parity
parity_set w v o = rw o

-- a number of w bits
module _ (w v : ℕ) (h : v < 2 ^ w) where
  -- bit w put above them is set
  bit-above : (v + 2 ^ w) / 2 ^ w ≡ 1
  bit-above = let e : v + 2 ^ w ≡ 1 * 2 ^ w + v = omega arith in rw e (high 1 w h)

  -- the bits below it are the number's
  bits_below : (v + 2 ^ w) % 2 ^ w ≡ v
  bits_below = let e : v + 2 ^ w ≡ 1 * 2 ^ w + v = omega arith in rw e (low 1 w h)

  -- and so are their ones
  same-below : odd_in w (v + 2 ^ w) ≡ odd_in w v
  same-below = ap odd_ones (sym (lsb_low w (v + 2 ^ w))) ∙ ap (odd_in w) bits_below

  -- with parity the ones are odd in number
  pub parity_odd : odd_in (suc w) (with_parity w v) ≡ true
  unfolding xor
  parity_odd = go (odd_in w v) refl
    where
      go : (o : Bool) → odd_in w v ≡ o → odd_in (suc w) (with_parity w v) ≡ true
      go true o = rw (parity_clear w v o, odd_more w v, o, div-eq_of_lt h)
      go false o = rw (parity_set w v o, odd_more w (v + 2 ^ w), same-below, o, bit-above)

  -- the w lowest bits are the number's
  pub parity_low : with_parity w v % 2 ^ w ≡ v
  parity_low = go (odd_in w v) refl
    where
      go : (o : Bool) → odd_in w v ≡ o → with_parity w v % 2 ^ w ≡ v
      go true o = rw (parity_clear w v o) (mod-eq_of_lt h)
      go false o = rw (parity_set w v o) bits_below

  -- it has one bit more
  pub parity_fits : with_parity w v < 2 ^ suc w
  parity_fits = go (odd_in w v) refl
    where
      go : (o : Bool) → odd_in w v ≡ o → with_parity w v < 2 ^ suc w
      go true o = omega (arith, parity_clear w v o, pow-suc 2 w)
      go false o = omega (arith, parity_set w v o, pow-suc 2 w)

-- a number whose ones are odd in number is its low bits with their parity
pub parity_only : (w b : ℕ) → b < 2 ^ suc w → odd_in (suc w) b ≡ true → with_parity w (b % 2 ^ w) ≡ b
unfolding xor
parity_only w b h odd = go (digit (b / 2 ^ w)) (odd_in w b) refl
  where
    -- there is one bit above
    part : b / 2 ^ w < 2
    part = shr_lt 1 w (rw (one-add w) h)

    -- the low bits have their ones
    same : odd_in w (b % 2 ^ w) ≡ odd_in w b
    same = ap odd_ones (lsb_low w b)

    go : (b / 2 ^ w % 2 ≡ 0) ⊎ (b / 2 ^ w % 2 ≡ 1) → (o : Bool) → odd_in w b ≡ o → with_parity w (b % 2 ^ w) ≡ b
    go (inl d) true o =
        let z : b / 2 ^ w ≡ 0 = omega (arith, part) in
        parity_clear w (b % 2 ^ w) (same ∙ o) ∙ omega (arith, rw z at (split b w))
    go (inl d) false o = absurd (true≢false (sym odd ∙ odd_more w b ∙ rw (o, d)))
    go (inr d) true o = absurd (true≢false (sym odd ∙ odd_more w b ∙ rw (o, d)))
    go (inr d) false o =
        let z : b / 2 ^ w ≡ 1 = omega (arith, part) in
        parity_set w (b % 2 ^ w) (same ∙ o) ∙ omega (arith, rw z at (split b w))
