-- Whatever the limit, a transaction of the plan goes on only where one of the next three registers is needed. Assumes nothing.
use mathlib.Core.Path.{◌≡◌, refl, sym, ◌∙◌}
use mathlib.Core.Logic.{◌⊎◌, inl, inr}
use mathlib.Core.Bool.{Bool, true, false, ◌||◌, false≢true}
use Prim.Native.Nat.{ℕ, zero, suc, ◌+◌, ◌≤◌, ◌<◌}
use native.Mathlib.Omega.{arith}
use lib.ListN.{length}
use Rattle.bus.specs.Transactions.{Transaction, end}
use Rattle.least_cost.specs.Task.{Task, Sound}
use Rattle.least_cost.specs.Plan.{Open, scan, extend, best, plan}
use Rattle.bus.proofs.After.{later}
use Rattle.least_cost.proofs.Gaps.{Later, gap_3_ends}
use Rattle.bits.specs.Lists.{Every}

-- x is needed, or one of the two registers after it
abbrev pub near : (ℕ → Bool) → ℕ → Bool
near need x = need x || (need (suc x) || need (suc (suc x)))

-- so in a transaction, past its first register
abbrev pub AllNear : (ℕ → Bool) → Transaction → Type 0
AllNear need t = (x : ℕ) → t.subaddress < x → x < end t → near need x ≡ true

module _ (p : Task) (σ : Sound p) (starts : Later p) (want : ℕ → ℕ) where
  -- where a transaction goes on, one of those is needed
  pub goes_near : (k i s : ℕ) → s ≤ i → best p k i s ≡ true → near p.need i ≡ true
  goes_near k i s h g = split (p.need i) refl (p.need (suc i)) refl (p.need (suc (suc i))) refl
    where
      split : (x : Bool) → p.need i ≡ x → (y : Bool) → p.need (suc i) ≡ y → (z : Bool) → p.need (suc (suc i)) ≡ z → near p.need i ≡ true
      split true e y f z u = rw e
      split false e true f z u = rw (e, f)
      split false e false f true u = rw (e, f, u)
      split false e false f false u = absurd (false≢true (sym (gap_3_ends p σ starts k i s h e f u) ∙ g))

  -- what is shown with a transaction open
  abbrev NearOpen : ℕ → Open → Type 0
  NearOpen i q = ((x : ℕ) → i ≤ x → x < i + length q.bytes → near p.need x ≡ true) × Every (AllNear p.need) q.rest

  -- and with none, by one induction
  abbrev NearFrom : ℕ → ℕ → Type 0
  NearFrom k i = Every (AllNear p.need) (scan p (best p) want k i) × ((s : ℕ) → s ≤ i → NearOpen i (extend p (best p) want k i s))

  -- for all registers
  near_from : (k i : ℕ) → NearFrom k i
  unfolding scan
  near_from zero i = (tt, λ s h. (λ x a b. absurd (omega arith), tt))
  near_from (suc k) i = let f = closes (p.need i) refl (near_from k (suc i)) in (f, λ s h. opens s h (best p k i s) refl f (near_from k (suc i)))
    where
      closes : (b : Bool) → p.need i ≡ b → NearFrom k (suc i) → Every (AllNear p.need) (scan p (best p) want (suc k) i)
      closes true n ih = let q = ih.1 i (omega arith) in rw n (λ x a b. q.0 x a (omega arith), q.1)
      closes false n ih = rw n ih.0

      opens : (s : ℕ) → s ≤ i → (b : Bool) → best p k i s ≡ b → Every (AllNear p.need) (scan p (best p) want (suc k) i)
          → NearFrom k (suc i) → NearOpen i (extend p (best p) want (suc k) i s)
      opens s h true e f ih = let q = ih.1 s (omega arith) in rw e (λ x a b. here x a b (later i x a) q.0, q.1)
        where
          here : (x : ℕ) → i ≤ x → x < i + suc (length (extend p (best p) want k (suc i) s).bytes) → (x ≡ i) ⊎ (suc i ≤ x)
              → ((y : ℕ) → suc i ≤ y → y < suc i + length (extend p (best p) want k (suc i) s).bytes → near p.need y ≡ true)
              → near p.need x ≡ true
          here x a b (inl d) g = rw d (goes_near k i s h e)
          here x a b (inr d) g = g x d (omega arith)
      opens s h false e f ih = rw e (λ x a b. absurd (omega arith), f)

  -- of the whole plan
  pub plan-near : Every (AllNear p.need) (plan p want)
  unfolding plan
  plan-near = (near_from p.count 0).0
