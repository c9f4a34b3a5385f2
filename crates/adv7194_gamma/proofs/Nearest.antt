-- What the search for a nearest number finds. Assumes nothing.
use mathlib.Core.Path.{◌≡◌, sym, ◌∙◌, subst}
use mathlib.Core.Bool.{Bool, true, false, true≢false}
use mathlib.Core.Logic.{⊎_elim}
use Prim.Native.Nat.{ℕ, suc, ◌+◌, ◌-◌, ◌*◌, ◌^◌, ◌≤◌, ◌<◌}
use native.Mathlib.Nat.{mul-le-mul_left, mul-le-mul_right, mul-lt-mul_of_pos_right, pow-le-pow_left, pow-lt-pow_left, lt_of_le_of_lt, lt_of_lt_of_le, lt_of_not-le, one-le-pow}
use native.Mathlib.Omega.{arith}
use lib.Dec.{lit<}
use borrow.Author.Tests.{ltb-true, ltb-false, lt-ltb}
use Rattle.rounding.proofs.First.{first_found}
use Rattle.adv7194_gamma.specs.Power.{below_half, nearest_power, NearestPower}

-- a test that both passes and fails
clash : {X : Type 0} {b : Bool} → b ≡ true → b ≡ false → X
clash t f = absurd (true≢false (sym t ∙ f))

-- a candidate that passes at a place passes at each earlier one
earlier : (x z p q j : ℕ) → x ≤ z → below_half z p q j ≡ true → below_half x p q j ≡ true
unfolding below_half
earlier x z p q j h t = lt-ltb _ _ (lt_of_le_of_lt (mul-le-mul_left (448 ^ q) (pow-le-pow_left h p)) (ltb-true _ _ t))

-- a candidate that passes leaves each later one passing
later : (x p q j k : ℕ) → j ≤ k → below_half x p q j ≡ true → below_half x p q k ≡ true
unfolding below_half
later x p q j k h t =
    let odd : 2 * j + 1 ≤ 2 * k + 1 = omega arith in
    lt-ltb _ _ (lt_of_lt_of_le (ltb-true _ _ t) (mul-le-mul_right (224 ^ p) (pow-le-pow_left odd q)))

-- the last candidate passes
last : (x p q : ℕ) → x ≤ 224 → 0 < q → below_half x p q 224 ≡ true
unfolding below_half
last x p q h hq =
    earlier x 224 p q 224 h
    (lt-ltb _ _ (mul-lt-mul_of_pos_right (pow-lt-pow_left {a = 448} {b = 449} (lit< tt) (λ e. absurd (omega arith))) (one-le-pow p 224 (lit< tt))))

-- nothing below what the search finds passes
least : (x p q j : ℕ) → j < nearest_power x p q → below_half x p q j ≡ false
unfolding nearest_power
least x p q j h = (first_found (below_half x p q) 224).least j (omega arith) h

-- the byte at n of the ratio p/q
abbrev pub byte_at : ℕ → ℕ → ℕ → ℕ
byte_at p q n = 16 + nearest_power (n - 16) p q

module _ (x p q : ℕ) (hx : x ≤ 224) (hq : 0 < q) where
  passes : below_half x p q (nearest_power x p q) ≡ true
  unfolding nearest_power
  passes = ⊎_elim (λ e. rw e (last x p q hx hq)) (λ t. t) (first_found (below_half x p q) 224).passes

  -- and not above one that passes
  pub at_most : (j : ℕ) → below_half x p q j ≡ true → nearest_power x p q ≤ j
  at_most j t =
      let below : nearest_power x p q < suc j = lt_of_not-le (λ (h : suc j ≤ nearest_power x p q). clash t (least x p q j h)) in
      omega arith

  pub bounded : nearest_power x p q ≤ 224
  bounded = at_most 224 (last x p q hx hq)

  -- the nearest number is above a candidate that fails
  pub above : (j : ℕ) → below_half x p q j ≡ false → j < nearest_power x p q
  above j f = lt_of_not-le (λ (h : nearest_power x p q ≤ j). clash (later x p q (nearest_power x p q) j h passes) f)

  pub nearest_power_lem : NearestPower x p q (nearest_power x p q)
  unfolding below_half
  nearest_power_lem =
      let r = nearest_power x p q in
      record {
        under = ltb-true _ _ passes;
        over = λ h.
            let e : 2 * (r - 1) + 1 ≡ 2 * r - 1 = omega arith in
            let k : r - 1 < r = omega arith in
            subst (λ (n : ℕ). n ^ q * 224 ^ p ≤ 448 ^ q * x ^ p) e (ltb-false _ _ (least x p q (r - 1) k));
      }
