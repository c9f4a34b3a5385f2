-- The highest register of a map that is not past another is the one that leading zeros find. Assumes nothing.
use mathlib.Core.Path.{◌≡◌, sym, ap, ◌∙◌}
use mathlib.Core.Bool.{true, false≢true}
use Prim.Native.Nat.{ℕ, zero, suc, ◌+◌, ◌-◌, ◌*◌, ◌/◌, ◌%◌, ◌^◌, ◌≤◌, ◌<◌}
use native.Mathlib.Nat.{mod-lt, one-mul, pow-suc}
use native.Mathlib.Omega.{arith}
use lib.Count.{count_leading_zeros, leading_top}
use lib.Dec.{eqb}
use lib.Pow.{pow_pos, high}
use Rattle.bits.specs.Maps.{has}
use Rattle.bits.proofs.SetLaws.{has_up, has-mod, has-past, has_in}
use Rattle.cutting.specs.Cuts.{Highest}

-- a map with a register is not 0
some-register : (m i : ℕ) → has m i ≡ true → 0 < m
some-register zero i e = absurd (false≢true (sym (has-past 0 0 i (pow_pos 0) (omega arith)) ∙ e))
some-register (suc m) i e = omega arith

-- the highest digit of a number of j + 1 digits is set
top_digit : (m j : ℕ) → 2 ^ j ≤ m → m < 2 ^ suc j → has m j ≡ true
top_digit m j a b =
    let parts : m ≡ 1 * 2 ^ j + (m - 2 ^ j) = omega (arith, one-mul (2 ^ j)) in
    let low : m - 2 ^ j < 2 ^ j = omega (arith, pow-suc 2 j) in
    ap (λ (x : ℕ). eqb (x % 2) 1) (ap (λ (x : ℕ). x / 2 ^ j) parts ∙ high 1 j low)

-- a map moved up until register `last` is the highest that it can have
abbrev moved : ℕ → ℕ → ℕ
moved m last = (m * 2 ^ (63 - last)) % 2 ^ 64

-- has the registers that are not past that one
moved_has : (m last i : ℕ) → last < 64 → i ≤ last → has (moved m last) (63 - last + i) ≡ has m i
moved_has m last i h k = has-mod 64 (m * 2 ^ (63 - last)) (63 - last + i) (omega arith) ∙ has_up m (63 - last) i

-- where there is such a register, its zeros above count down to the highest
pub highest_is : (m last i z : ℕ) → last < 64 → i ≤ last → has m i ≡ true → z ≡ count_leading_zeros 64 ((m * 2 ^ (63 - last)) % 2 ^ 64)
    → (z ≤ last) × Highest m last (last - z)
highest_is m last i z h k e q =
    let set = moved_has m last i h k ∙ e in
    let t = leading_top 64 (moved m last) (some-register (moved m last) (63 - last + i) set) (mod-lt (m * 2 ^ (63 - last)) (pow_pos 64)) in
    let j = t.0 in
    let sum = t.1 in
    let up = has_in (suc j) (moved m last) (63 - last + i) t.3 set in
    let place : 63 - last + (last - z) ≡ j = omega arith in (
      omega arith,
      record {
        near = omega arith;
        is = sym (moved_has m last (last - z) h (omega arith)) ∙ ap (has (moved m last)) place ∙ top_digit (moved m last) j t.2 t.3;
        none = λ x a b. sym (moved_has m last x h b) ∙ has-past (suc j) (moved m last) (63 - last + x) t.3 (omega arith);
      },
    )
