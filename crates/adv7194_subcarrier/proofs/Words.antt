-- The word of a standard, from a test that antt computes; and the sizes that the code's numbers keep to. Assumes nothing.
use mathlib.Core.Path.{◌≡◌}
use mathlib.Core.Bool.{Bool, true, false, ◌&&◌}
use Prim.Native.Nat.{ℕ, ◌+◌, ◌*◌, ◌^◌, ◌≤◌, ◌<◌}
use native.Mathlib.Nat.{mul-le-mul_right, lt_of_not-le}
use native.Mathlib.Omega.{arith}
use lib.Dec.{T, ltb, leb, ltb→lt, leb→le}
use Rattle.rounding.specs.Nearest.{Nearest}
use Rattle.rounding.proofs.Rounding.{nearestb, nearest_by}
use Rattle.rounding.proofs.Range.{both_l, both_r}
use Rattle.adv7194_subcarrier.specs.Subcarrier.{cycles_of, divisor_of, clocks_of, word_of}

-- the exact word is a fraction: the numerator
abbrev pub numerator : Bool → ℕ
numerator pal = 2 ^ 32 * cycles_of pal

-- and the denominator
abbrev pub denominator : Bool → Bool → ℕ
denominator pal square = divisor_of pal * clocks_of pal square

-- the sizes of a fraction that the code can round: both numbers below 2^62, the fraction at most 2^32 - 1
pub record Sized (n d : ℕ) : Type 0 where
  pub positive : 0 < d
  pub low : d < 2 ^ 62
  pub high : n < 2 ^ 62
  pub word : n + d ≤ 2 ^ 32 * d

-- the same as one test
abbrev sizes : ℕ → ℕ → Bool
sizes n d = ltb 0 d && (ltb d (2 ^ 62) && (ltb n (2 ^ 62) && leb (n + d) (2 ^ 32 * d)))

sized_by : (n d : ℕ) → T (sizes n d) → Sized n d
sized_by n d t =
    let after = both_r (ltb 0 d) _ t in
    let last = both_r (ltb d (2 ^ 62)) _ after in
    record {
      positive = ltb→lt 0 d (both_l (ltb 0 d) _ t);
      low = ltb→lt d (2 ^ 62) (both_l (ltb d (2 ^ 62)) _ after);
      high = ltb→lt n (2 ^ 62) (both_l (ltb n (2 ^ 62)) _ last);
      word = leb→le (n + d) (2 ^ 32 * d) (both_r (ltb n (2 ^ 62)) _ last);
    }

-- it passes at each standard, with square pixels and without
tested : (pal square : Bool) → T (sizes (numerator pal) (denominator pal square))
tested false true = tt
tested false false = tt
tested true true = tt
tested true false = tt

pub sized : (pal square : Bool) → Sized (numerator pal) (denominator pal square)
sized pal square = sized_by (numerator pal) (denominator pal square) (tested pal square)

-- what is nearest to a fraction of these sizes has 32 bits
pub in_word_lem : (n d k : ℕ) → Sized n d → Nearest n d k → k < 2 ^ 32
in_word_lem n d k s r = lt_of_not-le (λ (h : 2 ^ 32 ≤ k). omega (arith, mul-le-mul_right d h, r.over, s.word, s.positive))

-- the word of a standard is the number that passes the test of nearness
pub word-is : (pal square : Bool) (w : ℕ) → T (nearestb (numerator pal) (denominator pal square) w) → word_of pal square ≡ w
unfolding word_of
word-is pal square w t = nearest_by (numerator pal) (denominator pal square) w (sized pal square).positive t
