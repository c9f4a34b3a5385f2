-- Document 01, "Codings", gamma ratio: the whole number nearest to 224 times (x/224) to the power p/q, a half going up.
-- Nearness is judged in whole numbers, by powers: of 224 (x/224)^(p/q) and r + 1/2 the doubles are raised to the power q and multiplied by 224^p.
use Rattle.std.specs.Prelude.{Bool, ℕ, ◌+◌, ◌-◌, ◌*◌, ◌^◌, ◌≤◌, ◌<◌, ltb}
use Rattle.rounding.specs.First.{first}

-- 224 (x/224)^(p/q) < r + 1/2
unfoldable pub below_half : ℕ → ℕ → ℕ → ℕ → Bool
below_half x p q r = ltb (448 ^ q * x ^ p) ((2 * r + 1) ^ q * 224 ^ p)

-- the nearest whole number: the first r with 224 (x/224)^(p/q) < r + 1/2
unfoldable pub nearest_power : ℕ → ℕ → ℕ → ℕ
nearest_power x p q = first (below_half x p q) 224

-- r - 1/2 ≤ 224 (x/224)^(p/q) < r + 1/2
pub record NearestPower (x p q r : ℕ) : Type 0 where
  pub under : 448 ^ q * x ^ p < (2 * r + 1) ^ q * 224 ^ p
  pub over : 0 < r → (2 * r - 1) ^ q * 224 ^ p ≤ 448 ^ q * x ^ p

-- a ratio p/q: each number is 1 to 3
pub record Ratio (p q : ℕ) : Type 0 where
  pub p_low : 0 < p
  pub p_high : p ≤ 3
  pub q_low : 0 < q
  pub q_high : q ≤ 3
