-- Where to go on and to end never weigh the same, an ascending list that weighs the least is the plan. Assumes nothing.
use mathlib.Core.Path.{◌≡◌, refl, sym, ap₂, ◌∙◌}
use mathlib.Core.Bool.{Bool, true, false}
use mathlib.Core.List.{List, [], ◌∷◌}
use Prim.Native.Nat.{ℕ, zero, suc, ◌+◌, ◌-◌, ◌*◌, ◌≤◌, ◌<◌}
use native.Mathlib.Omega.{arith}
use lib.ListN.{length}
use lib.Dec.{ltb}
use borrow.Author.Tests.{ltb-true, ltb-false}
use Rattle.bus.specs.Transactions.{Transaction, end}
use Rattle.least_cost.specs.Order.{Ascending, Holds}
use Rattle.least_cost.specs.Task.{Task, Allowed, CoversFrom, Covers}
use Rattle.least_cost.specs.Weight.{byte_weight, weights, least_closed, least_open}
use Rattle.least_cost.specs.Plan.{Open, Choice, begin, scan, extend, best, plan}
use Rattle.least_cost.proofs.WeightLaws.{closed_skip, open_shut, reach}
use Rattle.least_cost.proofs.Best.{NoTie, scan-need, scan_skip, extend-goes, extend-leaves, best-goes}
use Rattle.least_cost.proofs.Attained.{ascending_from, Wanted, wanted-more}
use Rattle.least_cost.proofs.Spans.{same_transaction, ascending-past}
use Rattle.least_cost.proofs.Earliest.{no_weight, ended, Met, met, past}
use Rattle.bits.specs.Lists.{Every}

module _ (p : Task) (want : ℕ → ℕ) where
  -- the data that an open transaction goes on with are the wanted bytes
  extend-wanted : (goes : Choice) (k i s : ℕ) → Wanted want i (extend p goes want k i s).bytes
  unfolding scan
  extend-wanted goes zero i s = λ x a b. absurd (omega arith)
  extend-wanted goes (suc k) i s = split (goes k i s) refl (extend-wanted goes k (suc i) s)
    where
      split : (b : Bool) → goes k i s ≡ b → Wanted want (suc i) (extend p goes want k (suc i) s).bytes
          → Wanted want i (extend p goes want (suc k) i s).bytes
      split true e ih = rw (extend-goes p goes want k i s e) (wanted-more want i (extend p goes want k (suc i) s).bytes ih)
      split false e ih = rw (extend-leaves p goes want k i s e) (λ x a b. absurd (omega arith))

module _ (p : Task) (want : ℕ → ℕ) (τ : NoTie p) where
  -- no end that weighs as little comes later
  abbrev Long : ℕ → ℕ → ℕ → Open → Type 0
  Long k i r q = (k' j : ℕ) → i + k ≡ j + k' → i ≤ j → ((x : ℕ) → i ≤ x → x < j → p.takes r x ≡ true) → p.cut j ≡ true
      → byte_weight * j + least_closed p k' j ≤ least_open p k i r + byte_weight * i → j ≤ i + length q.bytes

  -- than the plan's
  long : (k i r : ℕ) → r ≤ i → i + k ≡ p.count → Long k i r (extend p (best p) want k i r)
  unfolding scan
  long zero i r h e = λ k' j a b t c d. omega arith
  long (suc k) i r h e = split (best p k i r) refl (long k (suc i) r (omega arith) (omega arith))
    where
      split : (b : Bool) → best p k i r ≡ b → Long k (suc i) r (extend p (best p) want k (suc i) r)
          → Long (suc k) i r (extend p (best p) want (suc k) i r)
      split true f ih = rw (extend-goes p (best p) want k i r f) (λ k' j a b t c d. further k' j a t c d (ltb i j) refl)
        where
          further : (k' j : ℕ) → i + suc k ≡ j + k' → ((x : ℕ) → i ≤ x → x < j → p.takes r x ≡ true) → p.cut j ≡ true
              → byte_weight * j + least_closed p k' j ≤ least_open p (suc k) i r + byte_weight * i
              → (t : Bool) → ltb i j ≡ t → j ≤ i + suc (length (extend p (best p) want k (suc i) r).bytes)
          further k' j a t c d true g =
              omega (arith, ih k' j (omega arith) (ltb-true i j g) (λ x u v. t x (omega arith) v) c (omega (arith, best-goes p k i r f)))
          further k' j a t c d false g = omega (arith, ltb-false i j g)
      split false f ih = rw (extend-leaves p (best p) want k i r f) (λ k' j a b t c d. no_further k' j a b t c d (ltb i j) refl)
        where
          no_further : (k' j : ℕ) → i + suc k ≡ j + k' → i ≤ j → ((x : ℕ) → i ≤ x → x < j → p.takes r x ≡ true) → p.cut j ≡ true
              → byte_weight * j + least_closed p k' j ≤ least_open p (suc k) i r + byte_weight * i
              → (t : Bool) → ltb i j ≡ t → j ≤ i + 0
          no_further k' j a b t c d false g = omega (arith, ltb-false i j g)
          no_further k' j a b t c d true g =
              let u = ltb-true i j g in
              let x = reach p k (suc i) r k' j (omega arith) u (λ y v w. t y (omega arith) w) c in
              let y = open_shut p (suc k) i r in
              let z = τ k i r h e (t i (omega arith) u) f in
              absurd (omega arith)

  -- what the rest of a list must be, for the list to be the plan
  abbrev Same : ℕ → Type 0
  Same m = (k i : ℕ) → k ≤ m → i + k ≡ p.count → (ts : List Transaction) → Every (Allowed p) ts → Every (Holds want) ts → Ascending 0 ts
      → CoversFrom p i ts → weights ts ≤ least_closed p k i → ts ≡ scan p (best p) want k i

  module _ (m k i : ℕ) (e : i + suc k ≡ p.count) (g : suc k ≤ suc m) (n : p.need i ≡ true) (ih : Same m) where
    -- a list whose first needed register is i begins as the plan does
    begins : (t : Transaction) (ts : List Transaction) → Every (Allowed p) (t ∷ ts) → Every (Holds want) (t ∷ ts) → Ascending 0 (t ∷ ts)
        → CoversFrom p i (t ∷ ts) → weights (t ∷ ts) ≤ least_closed p (suc k) i
        → (t ∷ ts) ≡ begin i (want i) (extend p (best p) want k (suc i) i)
    begins t ts (ok, all) (held, holds) a covers h = reaching (ltb i (end t)) refl
      where
        first : t.subaddress ≤ i
        first = low (ltb i t.subaddress) refl
          where
            low : (b : Bool) → ltb i t.subaddress ≡ b → t.subaddress ≤ i
            low false d = ltb-false i t.subaddress d
            low true d = absurd (ascending-past t.subaddress i (t ∷ ts) (omega arith, a.1) (ltb-true i t.subaddress d)
                (covers i (omega arith) (omega arith) n))

        same : Met p want k i t ts → (t ∷ ts) ≡ begin i (want i) (extend p (best p) want k (suc i) i)
        same f =
            let q = extend p (best p) want k (suc i) i in
            let l = f.longer in
            let w = f.within in
            let s = f.starts in
            let z = long k (suc i) i (omega arith) (omega arith) (p.count - end t) (end t) (omega arith) (omega arith)
            (λ x u v. ok.takes i (omega arith) x (omega arith) v) (ok.ends i (omega arith)) f.light in
            ap₂ ◌∷◌
            (same_transaction want t (record { subaddress = i; bytes = want i ∷ q.bytes }) (sym s) (omega arith) held
            (λ x u. wanted-more want i q.bytes (extend-wanted p want (best p) k (suc i) i) x u.0 u.1))
            (ih (p.count - end t) (end t) (omega arith) (omega arith) ts all holds (ascending_from (end t) 0 ts (omega arith) a.1) f.covers f.least
            ∙ sym (ended p want k (suc i) i (p.count - end t) (end t) (omega arith) (omega arith)))

        reaching : (b : Bool) → ltb i (end t) ≡ b → (t ∷ ts) ≡ begin i (want i) (extend p (best p) want k (suc i) i)
        reaching true d = same (met p want k i e n t ts ok all covers h first (ltb-true i (end t) d))
        reaching false d = absurd (past p want k i e n t ts ok all covers h (ltb-false i (end t) d))

  -- so for all registers
  unique : (m : ℕ) → Same m
  unfolding scan least_closed
  unique zero zero i g e ts all holds a covers h = no_weight ts h
  unique zero (suc k) i g e ts all holds a covers h = absurd (omega arith)
  unique (suc m) zero i g e ts all holds a covers h = no_weight ts h
  unique (suc m) (suc k) i g e ts all holds a covers h = split (p.need i) refl ts all holds a covers h (unique m)
    where
      split : (b : Bool) → p.need i ≡ b → (us : List Transaction) → Every (Allowed p) us → Every (Holds want) us → Ascending 0 us
          → CoversFrom p i us → weights us ≤ least_closed p (suc k) i → Same m → us ≡ scan p (best p) want (suc k) i
      split false n us x y z c w ih =
          ih k (suc i) (omega arith) (omega arith) us x y z (λ r u. c r (omega arith)) (omega (arith, closed_skip p k i n))
          ∙ sym (scan_skip p (best p) want k i n)
      split true n [] x y z c w ih = absurd (c i (omega arith) (omega arith) n)
      split true n (u ∷ us) x y z c w ih = begins m k i e g n ih u us x y z c w ∙ sym (scan-need p (best p) want k i n)

  -- a list that does the task and weighs the least is the plan
  pub only-plan : (ts : List Transaction) → Every (Allowed p) ts → Every (Holds want) ts → Ascending 0 ts → Covers p ts
      → weights ts ≤ least_closed p p.count 0 → ts ≡ plan p want
  unfolding plan
  only-plan ts all holds a covers h =
      unique p.count p.count 0 (omega arith) (omega arith) ts all holds a (λ r u. covers r) h
