-- Of the ends that weigh as little a transaction of the plan takes the first; the plan against a list that weighs the least. Assumes nothing.
use mathlib.Core.Path.{◌≡◌, refl}
use mathlib.Core.Logic.{⊎_elim}
use mathlib.Core.Bool.{Bool, true, false}
use mathlib.Core.List.{List, [], ◌∷◌}
use Prim.Native.Nat.{ℕ, zero, suc, ◌+◌, ◌-◌, ◌*◌, ◌≤◌, ◌<◌}
use native.Mathlib.Omega.{arith}
use lib.ListN.{length}
use lib.Dec.{ltb}
use borrow.Author.Tests.{ltb-true, ltb-false}
use Rattle.bus.specs.Transactions.{Transaction, end}
use Rattle.least_cost.specs.Task.{Task, Allowed, CoversFrom}
use Rattle.least_cost.specs.Weight.{byte_weight, weights, least_closed, least_open}
use Rattle.least_cost.specs.Plan.{Open, leaving, scan, extend, best}
use Rattle.least_cost.proofs.WeightLaws.{closed_need, reach}
use Rattle.least_cost.proofs.LowerBound.{least_from}
use Rattle.least_cost.proofs.Best.{extend-goes, extend-leaves, best_true, best-goes}
use Rattle.bits.specs.Lists.{Every}

-- a list of some weight is not empty
pub no_weight : (ts : List Transaction) → weights ts ≤ 0 → ts ≡ []
unfolding weights
no_weight [] h = refl
no_weight (t ∷ ts) h = absurd (omega arith)

module _ (p : Task) (want : ℕ → ℕ) where
  -- past an open transaction the plan goes on with none open
  abbrev Ended : ℕ → ℕ → Open → Type 0
  Ended k i q = (k' j : ℕ) → i + k ≡ j + k' → j ≡ i + length q.bytes → q.rest ≡ scan p (best p) want k' j

  -- so where it ends at once
  ended_left : (k i : ℕ) → Ended k i (leaving (scan p (best p) want k i))
  ended_left k i k' j e f =
      let a : k' ≡ k = omega arith in
      let b : j ≡ i = omega arith in
      rw (a, b)

  -- and where it goes on
  pub ended : (k i r : ℕ) → Ended k i (extend p (best p) want k i r)
  unfolding scan
  ended zero i r = ended_left zero i
  ended (suc k) i r = split (best p k i r) refl (ended k (suc i) r)
    where
      split : (b : Bool) → best p k i r ≡ b → Ended k (suc i) (extend p (best p) want k (suc i) r) → Ended (suc k) i (extend p (best p) want (suc k) i r)
      split true e ih = rw (extend-goes p (best p) want k i r e) (λ k' j a b. ih k' j (omega arith) (omega arith))
      split false e ih = rw (extend-leaves p (best p) want k i r e) (ended_left (suc k) i)

  -- no end that weighs as little comes earlier
  abbrev Short : ℕ → ℕ → ℕ → Open → Type 0
  Short k i r q = (k' j : ℕ) → i + k ≡ j + k' → i ≤ j → p.cut j ≡ true → byte_weight * j + least_closed p k' j ≤ least_open p k i r + byte_weight * i
      → i + length q.bytes ≤ j

  -- than the plan's
  short : (k i r : ℕ) → Short k i r (extend p (best p) want k i r)
  unfolding scan
  short zero i r = λ k' j a b c d. omega arith
  short (suc k) i r = split (best p k i r) refl (short k (suc i) r)
    where
      split : (b : Bool) → best p k i r ≡ b → Short k (suc i) r (extend p (best p) want k (suc i) r) → Short (suc k) i r (extend p (best p) want (suc k) i r)
      split false e ih = rw (extend-leaves p (best p) want k i r e) (λ k' j a b c d. omega arith)
      split true e ih = rw (extend-goes p (best p) want k i r e) (λ k' j a b c d. later? k' j a b c d (ltb i j) refl)
        where
          later? : (k' j : ℕ) → i + suc k ≡ j + k' → i ≤ j → p.cut j ≡ true → byte_weight * j + least_closed p k' j ≤ least_open p (suc k) i r + byte_weight * i
              → (t : Bool) → ltb i j ≡ t → i + suc (length (extend p (best p) want k (suc i) r).bytes) ≤ j
          later? k' j a b c d true f =
              omega (arith, ih k' j (omega arith) (ltb-true i j f) c (omega (arith, best-goes p k i r e)))
          later? k' j a b c d false f =
              let g = ltb-false i j f in
              let x : j ≡ i = omega arith in
              let y : k' ≡ suc k = omega arith in
              absurd (omega (arith, best-goes p k i r e, rw (rw x at c) at (best_true p k i r e).1, rw (x, y) at d))

  -- a list without its first transaction covers what lies past that
  drop-first : (t : Transaction) (ts : List Transaction) (i b : ℕ) → CoversFrom p i (t ∷ ts) → i ≤ b → end t ≤ b → CoversFrom p b ts
  drop-first t ts i b covers h g r a c n = ⊎_elim (λ u. absurd (omega arith)) (λ u. u) (covers r (omega arith) c n)

  -- the first transaction of a list that weighs the least and covers from i on, where it touches i: it starts at i, is no shorter
  -- than the plan's, and what follows weighs the least too
  pub record Met (k i : ℕ) (t : Transaction) (ts : List Transaction) : Type 0 where
    pub starts : i ≡ t.subaddress
    pub longer : suc i + length (extend p (best p) want k (suc i) i).bytes ≤ end t
    pub within : end t ≤ p.count
    pub covers : CoversFrom p (end t) ts
    pub least : weights ts ≤ least_closed p (p.count - end t) (end t)
    pub light : byte_weight * end t + least_closed p (p.count - end t) (end t) ≤ least_open p k (suc i) i + byte_weight * suc i

  module _ (k i : ℕ) (e : i + suc k ≡ p.count) (n : p.need i ≡ true) (t : Transaction) (ts : List Transaction) (ok : Allowed p t) (all : Every (Allowed p) ts)
      (covers : CoversFrom p i (t ∷ ts)) (h : weights (t ∷ ts) ≤ least_closed p (suc k) i) where
    -- so it is, where its first transaction touches i
    pub met : t.subaddress ≤ i → i < end t → Met k i t ts
    unfolding weights
    met a b =
        let j = end t in
        let w = ok.within (j - 1) (omega arith) in
        let c = drop-first t ts i j covers (omega arith) (omega arith) in
        let x = least_from p ts all (p.count - j) j (omega arith) c in
        let y = reach p k (suc i) i (p.count - j) j (omega arith) b (ok.takes i (a, b)) (ok.ends i (a, b)) in
        let f = closed_need p k i n in
        record {
          starts = omega arith;
          longer = short k (suc i) i (p.count - j) j (omega arith) b (ok.ends i (a, b)) (omega arith);
          within = omega arith;
          covers = c;
          least = omega arith;
          light = omega arith;
        }

    -- it does not end before i
    pub past : end t ≤ i → ⊥
    unfolding weights
    past d = omega (arith, least_from p ts all (suc k) i e (drop-first t ts i i covers (omega arith) d))
