-- Scans of tasks that need the same registers, by choices that agree, are one; so tasks that agree register by register have one plan. Assumes nothing.
use mathlib.Core.Path.{◌≡◌, refl, ap, ap₂, ◌∙◌, fun_ext}
use mathlib.Core.Bool.{Bool}
use Prim.Native.Nat.{ℕ, zero, suc, ◌+◌, ◌≤◌}
use native.Mathlib.Omega.{arith}
use Rattle.least_cost.specs.Task.{Task}
use Rattle.least_cost.specs.Plan.{Choice, joins, joining, scan, extend, plan, greedy_plan}

module _ (p q : Task) (want : ℕ → ℕ) (f g : Choice) (need : (i : ℕ) → p.need i ≡ q.need i)
    (same : (k i s : ℕ) → s ≤ i → i + suc k ≡ p.count → f k i s ≡ g k i s) where
  -- the scans of both from register i on
  abbrev Alike : ℕ → ℕ → Type 0
  Alike k i = (scan p f want k i ≡ scan q g want k i) × ((s : ℕ) → s ≤ i → extend p f want k i s ≡ extend q g want k i s)

  -- are the same
  alike : (k i : ℕ) → i + k ≡ p.count → Alike k i
  unfolding scan
  alike zero i e = (refl, λ s h. refl)
  alike (suc k) i e =
      let ih = alike k (suc i) (omega arith) in
      let x = ih.1 i (omega arith) in
      (rw (need i, x, ih.0), λ s h. rw (need i, same k i s h e, x, ih.0, ih.1 s (omega arith)))

  -- two choices that agree wherever a scan comes make one plan
  pub scan_alike : p.count ≡ q.count → scan p f want p.count 0 ≡ scan q g want q.count 0
  scan_alike count = (alike p.count 0 (omega arith)).0 ∙ ap (λ (k : ℕ). scan q g want k 0) count

module _ (p q : Task) (ok ok' : ℕ → Bool) (want : ℕ → ℕ) (count : p.count ≡ q.count)
    (need : (i : ℕ) → p.need i ≡ q.need i) (may : (i : ℕ) → ok i ≡ ok' i) where
  -- a transaction goes on over the same registers
  goes : (i : ℕ) → joins p.need ok i ≡ joins q.need ok' i
  goes i = ap₂ (λ (n o : ℕ → Bool). joins n o i) (fun_ext need) (fun_ext may)

  -- tasks with as many registers, of which the same are needed and the same may be written, have one greedy plan
  pub greedy_alike : greedy_plan p ok want ≡ greedy_plan q ok' want
  unfolding greedy_plan
  greedy_alike = scan_alike p q want (joining p ok) (joining q ok') need (λ k i s h e. goes i) count

module _ (p q : Task) (want : ℕ → ℕ) (need : (i : ℕ) → p.need i ≡ q.need i) (takes : (s i : ℕ) → p.takes s i ≡ q.takes s i)
    (cut : (i : ℕ) → p.cut i ≡ q.cut i) where
  -- tasks that agree are one
  same-task : p.count ≡ q.count → p ≡ q
  same-task count = λ j. record { count = count j; need = λ i. need i j; takes = λ s i. takes s i j; cut = λ i. cut i j }

  -- so they have one plan
  pub plan_alike : p.count ≡ q.count → plan p want ≡ plan q want
  plan_alike count = ap (λ (t : Task). plan t want) (same-task count)
