-- Powers of at most 3 as products, and their bound. Assumes nothing.
use mathlib.Core.Path.{◌≡◌, sym, ap, ◌∙◌}
use mathlib.Core.Bool.{true, cond}
use Prim.Native.Nat.{ℕ, zero, suc, ◌*◌, ◌^◌, ◌≤◌, ◌<◌}
use native.Mathlib.Nat.{pow-suc, pow-zero, one-mul, pow-le-pow_left, pow-le-pow_right, le_trans, mul-one}
use native.Mathlib.Omega.{arith}
use lib.Dec.{lit<, lit≤, ltb}
use borrow.Author.Tests.{lt-ltb}

pub pow-one : (b : ℕ) → b ≡ b ^ 1
pow-one b = sym (pow-suc b 0 ∙ ap (λ (x : ℕ). x * b) (pow-zero b) ∙ one-mul b)

pub square : (b : ℕ) → b * b ≡ b ^ 2
square b = sym (pow-suc b 1 ∙ ap (λ (x : ℕ). x * b) (sym (pow-one b)))

pub cube : (b : ℕ) → b * b * b ≡ b ^ 3
cube b = sym (pow-suc b 2 ∙ ap (λ (x : ℕ). x * b) (sym (square b)))

-- a base of at most 450, an exponent of at most 3
power_le : (b e : ℕ) → b ≤ 450 → e ≤ 3 → b ^ e ≤ 450 ^ 3
power_le b e hb he = le_trans (pow-le-pow_left hb e) (pow-le-pow_right {n = 450} (lit< tt) he)

pub square_le : (b : ℕ) → b ≤ 450 → b * b ≤ 450 ^ 3
square_le b h = rw (square b) (power_le b 2 h (lit≤ tt))

pub cube_le : (b : ℕ) → b ≤ 450 → b * b * b ≤ 450 ^ 3
cube_le b h = rw (cube b) (power_le b 3 h (lit≤ tt))

-- the product that takes a second factor where e is above 1, and a third where it is above 2
abbrev pub first : ℕ → ℕ → ℕ
first b e = b * cond (ltb 1 e) b 1

abbrev pub both : ℕ → ℕ → ℕ
both b e = first b e * cond (ltb 2 e) b 1

-- it is the power
pub both_power : (b e : ℕ) → 0 < e → e ≤ 3 → both b e ≡ b ^ e
both_power b zero low high = absurd (omega arith)
both_power b (suc zero) low high = mul-one (b * 1) ∙ mul-one b ∙ pow-one b
both_power b (suc (suc zero)) low high = mul-one (b * b) ∙ square b
both_power b (suc (suc (suc zero))) low high = cube b
both_power b (suc (suc (suc (suc e)))) low high = absurd (omega arith)

-- and has a bound
pub both_le : (b e : ℕ) → b ≤ 450 → 0 < e → e ≤ 3 → both b e ≤ 450 ^ 3
both_le b e hb low high = rw (both_power b e low high) (power_le b e hb high)

pub first-le : (b e : ℕ) → b ≤ 450 → 0 < e → first b e ≤ 450 ^ 3
first-le b zero hb low = absurd (omega arith)
first-le b (suc zero) hb low = rw (mul-one b) (rw (pow-one b) (power_le b 1 hb (lit≤ tt)))
first-le b (suc (suc e)) hb low =
    let two : ltb 1 (suc (suc e)) ≡ true = lt-ltb 1 (suc (suc e)) (omega arith) in
    rw two (square_le b hb)
