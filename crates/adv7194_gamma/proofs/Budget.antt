-- Nine rounds are enough: where some candidates are above the lowest, fewer than 2 to the power of the rounds left, a round is left; and after a round that
-- keeps at most half of them they are fewer than 2 to the power of one less. Assumes nothing.
use mathlib.Core.Path.{◌≡◌}
use Prim.Native.Nat.{ℕ, zero, suc, ◌-◌, ◌*◌, ◌/◌, ◌^◌, ◌≤◌, ◌<◌}
use native.Mathlib.Nat.{pow-suc}
use native.Mathlib.Numerals.{unary_clauses}
use native.Mathlib.Omega.{arith}

-- a round is left
pub left : (b d : ℕ) → 0 < d → d < 2 ^ b → 0 < b
left zero d some h = absurd (omega arith)
left (suc b) d some h = omega arith

-- half of them are below half the power
pub half : (b d e : ℕ) → 0 < d → d < 2 ^ b → e ≤ d / 2 → e < 2 ^ (b - 1)
half zero d e some h least = absurd (omega arith)
half (suc b) d e some h least =
    let power : 2 ^ suc b ≡ 2 ^ b * 2 = pow-suc 2 b in
    let below : e < 2 ^ b = omega arith in
    simp unary_clauses below
