-- The registers next below and next above a register that pass a test: they do where one does, and none between does. Assumes nothing.
use mathlib.Core.Path.{◌≡◌, refl, sym, ◌∙◌}
use mathlib.Core.Logic.{⊎_elim}
use mathlib.Core.Bool.{Bool, true, false, false≢true}
use Prim.Native.Nat.{ℕ, zero, suc, ◌+◌, ◌≤◌, ◌<◌}
use native.Mathlib.Nat.{eq-or-lt_of_le}
use native.Mathlib.Omega.{arith}
use Rattle.rounding.specs.First.{first_from}
use Rattle.adv7194_reasons.specs.Reasons.{next_below}

-- a register below r that passes a test, and none between does
pub record NextBelow (P : ℕ → Bool) (r i : ℕ) : Type 0 where
  pub under : i < r
  pub passes : P i ≡ true
  pub none : (x : ℕ) → i < x → x < r → P x ≡ false

-- a register from r on that passes a test, and none before it does
pub record NextFrom (P : ℕ → Bool) (r i : ℕ) : Type 0 where
  pub from : r ≤ i
  pub passes : P i ≡ true
  pub none : (x : ℕ) → r ≤ x → x < i → P x ≡ false

module _ (P : ℕ → Bool) where
  -- ---- below

  -- the register just below, where it passes
  pub below-here : (r : ℕ) → P r ≡ true → next_below P (suc r) ≡ r
  unfolding next_below
  below-here r e = rw e

  -- and past it where it doesn't
  pub below_next : (r : ℕ) → P r ≡ false → next_below P (suc r) ≡ next_below P r
  unfolding next_below
  below_next r e = rw e

  -- where a register below r passes, the next one below is there, and no lower
  pub below-found : (r i : ℕ) → i < r → P i ≡ true → NextBelow P r (next_below P r) × (i ≤ next_below P r)
  below-found zero i h e = absurd (omega arith)
  below-found (suc r) i h e = split (P r) refl (λ k. below-found r i k e)
    where
      split : (b : Bool) → P r ≡ b → (i < r → NextBelow P r (next_below P r) × (i ≤ next_below P r))
          → NextBelow P (suc r) (next_below P (suc r)) × (i ≤ next_below P (suc r))
      split true f rest = rw (below-here r f) (record { under = omega arith; passes = f; none = λ x a b. absurd (omega arith) }, omega arith)
      split false f rest =
          rw (below_next r f)
          (⊎_elim (λ d. absurd (false≢true (sym f ∙ rw d at e))) (λ k. later (rest k)) (eq-or-lt_of_le {n = i} {m = r} (omega arith)))
        where
          later : NextBelow P r (next_below P r) × (i ≤ next_below P r) → NextBelow P (suc r) (next_below P r) × (i ≤ next_below P r)
          later q = (
            record {
              under = omega (arith, q.0.under);
              passes = q.0.passes;
              none = λ x a b. ⊎_elim (λ d. rw d f) (λ k. q.0.none x a k) (eq-or-lt_of_le {n = x} {m = r} (omega arith));
            },
            q.1,
          )

  -- ---- above

  -- the first of some registers, where it passes
  pub from_here : (k r : ℕ) → P r ≡ true → first_from P r (suc k) ≡ r
  unfolding first_from
  from_here k r e = rw e

  -- and past it where it doesn't
  pub from_next : (k r : ℕ) → P r ≡ false → first_from P r (suc k) ≡ first_from P (suc r) k
  unfolding first_from
  from_next k r e = rw e

  -- where a register from r on passes, of k registers, the next one is there, and no higher
  pub from_found : (k r i : ℕ) → r ≤ i → i < r + k → P i ≡ true → NextFrom P r (first_from P r k) × (first_from P r k ≤ i)
  from_found zero r i h g e = absurd (omega arith)
  from_found (suc k) r i h g e = split (P r) refl (λ d. from_found k (suc r) i d (omega arith) e)
    where
      split : (b : Bool) → P r ≡ b → (suc r ≤ i → NextFrom P (suc r) (first_from P (suc r) k) × (first_from P (suc r) k ≤ i))
          → NextFrom P r (first_from P r (suc k)) × (first_from P r (suc k) ≤ i)
      split true f rest = rw (from_here k r f) (record { from = omega arith; passes = f; none = λ x a b. absurd (omega arith) }, h)
      split false f rest =
          rw (from_next k r f)
          (⊎_elim (λ d. absurd (false≢true (sym f ∙ rw (← d) at e))) (λ d. later (rest d)) (eq-or-lt_of_le h))
        where
          later : NextFrom P (suc r) (first_from P (suc r) k) × (first_from P (suc r) k ≤ i)
              → NextFrom P r (first_from P (suc r) k) × (first_from P (suc r) k ≤ i)
          later q = (
            record {
              from = omega (arith, q.0.from);
              passes = q.0.passes;
              none = λ x a b. ⊎_elim (λ d. rw (← d) f) (λ d. q.0.none x d b) (eq-or-lt_of_le a);
            },
            q.1,
          )

  -- a register from r on that passes, and none before it does, is the next one
  pub from_is : (k r i : ℕ) → i < r + k → NextFrom P r i → first_from P r k ≡ i
  from_is k r i g f =
      let q = from_found k r i f.from g f.passes in
      ⊎_elim (λ e. e) (λ l. absurd (false≢true (sym (f.none (first_from P r k) q.0.from l) ∙ q.0.passes))) (eq-or-lt_of_le q.1)
