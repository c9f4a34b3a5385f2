-- Of the lists that weigh the least, in any order and overlap, the plan comes first. Assumes nothing.
use mathlib.Core.Path.{◌≡◌, refl}
use mathlib.Core.Logic.{◌⊎◌, inl, inr, ⊎_elim}
use mathlib.Core.Bool.{Bool, true, false}
use mathlib.Core.List.{List, [], ◌∷◌}
use Prim.Native.Nat.{ℕ, zero, suc, ◌+◌, ◌-◌, ◌≤◌}
use native.Mathlib.Omega.{arith}
use lib.Dec.{ltb}
use borrow.Author.Tests.{ltb-true, ltb-false}
use Rattle.bus.specs.Transactions.{Transaction, size, end}
use Rattle.least_cost.specs.Order.{Before, SameSpans}
use Rattle.least_cost.specs.Task.{Task, Allowed, Covers, CoversFrom}
use Rattle.least_cost.specs.Weight.{weights, least_closed}
use Rattle.least_cost.specs.Plan.{begin, scan, extend, best, plan}
use Rattle.least_cost.proofs.WeightLaws.{closed_skip}
use Rattle.least_cost.proofs.Best.{scan-need, scan_skip}
use Rattle.least_cost.proofs.Earliest.{no_weight, ended, Met, met, past}
use Rattle.bits.specs.Lists.{Every}

-- a list comes before another, or has the same starts and lengths
abbrev pub Leads : List Transaction → List Transaction → Type 0
Leads ts us = Before ts us ⊎ SameSpans ts us

-- one more transaction in front of each: the same start, and the first no longer
pub leads_more : (t u : Transaction) (ts us : List Transaction) → t.subaddress ≡ u.subaddress → size t ≤ size u → (size t ≡ size u → Leads ts us)
    → Leads (t ∷ ts) (u ∷ us)
leads_more t u ts us e h f = split (ltb (size t) (size u)) refl
  where
    split : (b : Bool) → ltb (size t) (size u) ≡ b → Leads (t ∷ ts) (u ∷ us)
    split true d = inl (inr (e, inl (ltb-true (size t) (size u) d)))
    split false d =
        let g = ltb-false (size t) (size u) d in
        let n : size t ≡ size u = omega arith in
        ⊎_elim (λ x. inl (inr (e, inr (n, x)))) (λ x. inr (e, (n, x))) (f n)

module _ (p : Task) (want : ℕ → ℕ) where
  -- what is shown of the registers from i on
  abbrev Firsts : ℕ → Type 0
  Firsts m = (k i : ℕ) → k ≤ m → i + k ≡ p.count → (ts : List Transaction) → Every (Allowed p) ts → CoversFrom p i ts
      → weights ts ≤ least_closed p k i → Leads (scan p (best p) want k i) ts

  -- where the list has a transaction and register i is needed
  against : (m k i : ℕ) → k ≤ m → i + suc k ≡ p.count → p.need i ≡ true → (t : Transaction) (ts : List Transaction) → Every (Allowed p) (t ∷ ts)
      → CoversFrom p i (t ∷ ts) → weights (t ∷ ts) ≤ least_closed p (suc k) i → Firsts m
      → Leads (begin i (want i) (extend p (best p) want k (suc i) i)) (t ∷ ts)
  against m k i g e n t ts (ok, all) covers h ih = start (ltb i t.subaddress) refl
    where
      same : Met p want k i t ts → Leads (begin i (want i) (extend p (best p) want k (suc i) i)) (t ∷ ts)
      same f =
          let q = extend p (best p) want k (suc i) i in
          let b = f.longer in
          let c = f.starts in
          let w = f.within in
          leads_more (record { subaddress = i; bytes = want i ∷ q.bytes }) t q.rest ts c (omega arith)
          (λ d. rw (ended p want k (suc i) i (p.count - end t) (end t) (omega arith) (omega arith))
          (ih (p.count - end t) (end t) (omega arith) (omega arith) ts all f.covers f.least))

      reaching : t.subaddress ≤ i → (b : Bool) → ltb i (end t) ≡ b → Leads (begin i (want i) (extend p (best p) want k (suc i) i)) (t ∷ ts)
      reaching a true d = same (met p want k i e n t ts ok all covers h a (ltb-true i (end t) d))
      reaching a false d = absurd (past p want k i e n t ts ok all covers h (ltb-false i (end t) d))

      start : (b : Bool) → ltb i t.subaddress ≡ b → Leads (begin i (want i) (extend p (best p) want k (suc i) i)) (t ∷ ts)
      start true d = inl (inl (ltb-true i t.subaddress d))
      start false d = reaching (ltb-false i t.subaddress d) (ltb i (end t)) refl

  -- where nothing is left to write the list is empty
  none : (ts : List Transaction) → weights ts ≤ 0 → Leads [] ts
  none ts h = rw (no_weight ts h) (inr tt)

  -- so for all registers
  firsts : (m : ℕ) → Firsts m
  unfolding scan least_closed
  firsts zero zero i g e ts all covers h = none ts h
  firsts zero (suc k) i g e ts all covers h = absurd (omega arith)
  firsts (suc m) zero i g e ts all covers h = none ts h
  firsts (suc m) (suc k) i g e ts all covers h = split (p.need i) refl ts all covers h (firsts m)
    where
      split : (b : Bool) → p.need i ≡ b → (us : List Transaction) → Every (Allowed p) us → CoversFrom p i us → weights us ≤ least_closed p (suc k) i
          → Firsts m → Leads (scan p (best p) want (suc k) i) us
      split false n us a c w ih =
          rw (scan_skip p (best p) want k i n)
          (ih k (suc i) (omega arith) (omega arith) us a (λ r u. c r (omega arith)) (omega (arith, closed_skip p k i n)))
      split true n [] a c w ih = absurd (c i (omega arith) (omega arith) n)
      split true n (u ∷ us) a c w ih =
          rw (scan-need p (best p) want k i n) (against m k i (omega arith) e n u us a c w ih)

  -- a list that keeps the rules, covers what is needed and weighs no more than the least has the plan's starts and lengths or comes after it
  pub plan_leads : (ts : List Transaction) → Every (Allowed p) ts → Covers p ts → weights ts ≤ least_closed p p.count 0 → Leads (plan p want) ts
  unfolding plan
  plan_leads ts all covers h =
      firsts p.count p.count 0 (omega arith) (omega arith) ts all (λ r u. covers r) h
