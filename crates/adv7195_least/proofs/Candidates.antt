-- A transaction that ends with 3E for 09, and a list that does what is left, weigh no less than the plan for its start; and where it starts at 00 to 03 they
-- weigh more than another. Assumes nothing.
use mathlib.Core.Path.{◌≡◌, refl, sym}
use mathlib.Core.Logic.{◌⊎◌, inl, inr, ⊎_elim}
use mathlib.Core.Bool.{Bool, true, false, false≢true}
use mathlib.Core.List.{List, ◌∷◌}
use Prim.Native.Nat.{ℕ, ◌+◌, ◌-◌, ◌*◌, ◌≤◌, ◌<◌, min, max}
use native.Mathlib.Omega.{arith}
use lib.Dec.{ltb, leb}
use lib.ListN.{set, length-set, replicate, length-replicate}
use lib.Seq.{length-slice}
use borrow.Author.Tests.{ltb-true, ltb-false, leb-true, leb-false}
use Rattle.bus.specs.Registers.{differs}
use Rattle.bus.specs.Transactions.{Transaction, size, end, Touches, Touched}
use Rattle.bus.proofs.RegisterLaws.{among_out}
use Rattle.least_cost.specs.Weight.{byte_weight, start_weight, weights}
use Rattle.least_cost.proofs.Pulled.{Pulled, pulled}
use Rattle.cutting.proofs.CandidateLaws.{FirstLeast, first-least}
use Rattle.adv7195_bus.specs.Rules.{Rules}
use Rattle.adv7195_least.specs.Reaching.{Change}
use Rattle.adv7195_least.specs.Plan.{plan_for, restores, beside, preparing, flip_plan, first_start, further_starts, preparing_start}
use Rattle.adv7195_least.proofs.TaskLaws.{bound, plan-is}
use Rattle.adv7195_least.proofs.Differing.{Left, beside_left, beside-writable}
use Rattle.bits.specs.Lists.{Every}

-- a transaction for the registers from lo on, before hi
abbrev pub span : ℕ → ℕ → Transaction
span lo hi = record { subaddress = lo; bytes = replicate (hi - lo) 0 }

-- how many data it has
pub span_size : (lo hi : ℕ) → size (span lo hi) ≡ hi - lo
span_size lo hi = length-replicate {A = ℕ} (hi - lo) 0

-- a transaction that touches a register before 0A ends there
pub low_end : (t : Transaction) → Rules t → (r : ℕ) → r ≤ 0x09 → Touches t r → end t ≤ 0x0a
low_end t h r g u = split (ltb 0x0a (end t)) refl
  where
    split : (b : Bool) → ltb 0x0a (end t) ≡ b → end t ≤ 0x0a
    split true e = let d = ltb-true 0x0a (end t) e in absurd (false≢true (sym (h.inside 0x0a (omega arith)).1))
    split false e = ltb-false 0x0a (end t) e

-- one that ends there keeps the rule
pub low-rules : (lo hi : ℕ) → hi ≤ 0x0a → Rules (span lo hi)
low-rules lo hi h = record { inside = λ r u. let n = span_size lo hi in (omega arith, among_out 0x0a 0x0f r (inl (omega arith))) }

-- such a transaction in place of one of a list's that lies in it
pub wider : (us : List Transaction) (r : ℕ) (q : Pulled Rules us r) (lo hi : ℕ) → lo ≤ q.transaction.subaddress → end q.transaction ≤ hi → hi ≤ 0x0a
    → Every Rules (span lo hi ∷ q.others) × ((x : ℕ) → Touched us x → Touched (span lo hi ∷ q.others) x)
wider us r q lo hi a b c =
    ((low-rules lo hi c, q.every), λ x u. ⊎_elim (λ v. inl (let n = span_size lo hi in omega arith)) inr (q.splits x u))

module _ (image wanted : List ℕ) where
  -- a list does what is left beside a to 09
  pub record Completes (a : ℕ) (us : List Transaction) : Type 0 where
    pub rules : Every Rules us
    pub covers : (x : ℕ) → differs image wanted x ≡ true → ((a ≤ x) × (x ≤ 0x09)) ⊎ Touched us x
    pub flips : Touched us 0x03
    pub restored : restores wanted ≡ true → Touched us 0x09

  -- what it weighs together with a transaction for a to 09
  abbrev pub whole : ℕ → List Transaction → ℕ
  whole a us = start_weight + byte_weight * (0x0a - a) + weights us

  -- the plan's start
  abbrev start : ℕ
  start = preparing_start image wanted

  -- what the plan that starts at a weighs
  abbrev pub flip_weight : ℕ → ℕ
  flip_weight a = weights (flip_plan image wanted a)

  -- another list that does all that it does
  pub completes_more : (a b : ℕ) (us vs : List Transaction) → Every Rules vs → ((x : ℕ) → Touched us x → Touched vs x)
      → ((x : ℕ) → a ≤ x → x ≤ 0x09 → ((b ≤ x) × (x ≤ 0x09)) ⊎ Touched vs x) → Completes a us → Completes b vs
  completes_more a b us vs all f g c = record {
    rules = all;
    covers = λ x d. ⊎_elim (λ u. g x u.0 u.1) (λ u. inr (f x u)) (c.covers x d);
    flips = f 0x03 c.flips;
    restored = λ e. f 0x09 (c.restored e);
  }

  module _ (χ : Change image wanted) where
    -- the transaction that ends with 3E has a byte for each register from a to 09
    pub preparing-size : (a : ℕ) → size (preparing wanted a) ≡ 0x0a - a
    unfolding preparing
    preparing-size a = let n = χ.wants in length-slice a 0x0a (set wanted 0x09 0x3e) (omega (arith, length-set wanted 0x09 0x3e))

    -- so much the plan that starts at a weighs
    pub flip_weighs : (a : ℕ) → flip_weight a ≡ whole a (plan_for (beside image wanted a) wanted)
    unfolding flip_plan weights
    flip_weighs a = omega (arith, preparing-size a)

    -- a list that does what is left touches it
    pub completes_touched : (a : ℕ) (us : List Transaction) → Completes a us → (x : ℕ) → beside image wanted a x ≡ true → Touched us x
    completes_touched a us c x e = split (beside_left image wanted a x e)
      where
        split : Left image wanted a x → Touched us x
        split (inl (d, h)) = ⊎_elim (λ u. absurd (⊎_elim {C = ⊥} (λ v. omega arith) (λ v. omega arith) h)) (λ u. u) (c.covers x d)
        split (inr (inl q)) = rw q c.flips
        split (inr (inr q)) = rw q.0 (c.restored q.1)

    -- so it weighs no less than the plan
    pub candidate : (a : ℕ) (us : List Transaction) → Completes a us → flip_weight a ≤ whole a us
    candidate a us c =
        omega (
          arith,
          flip_weighs a,
          (plan-is (beside image wanted a) (beside-writable image wanted χ a) wanted).weighs,
          bound (beside image wanted a) (beside-writable image wanted χ a) us c.rules (completes_touched a us c),
        )

    -- one that starts at 00 to 03 weighs more than one that starts at 09: what it has before 09 goes to the transaction that touches 03
    from_low : (a : ℕ) (us : List Transaction) → a < 0x04 → Completes a us → flip_weight 0x09 < whole a us
    unfolding weights
    from_low a us h c =
        let q = pulled Rules 0x03 us c.rules c.flips in
        let t = q.transaction in
        let u = q.touch in
        let e = low_end t q.has 0x03 (omega arith) u in
        let lo = min a t.subaddress in
        let hi = max 0x09 (end t) in
        let w = wider us 0x03 q lo hi (omega arith) (omega arith) (omega arith) in
        omega (
          arith,
          span_size lo hi,
          q.weighs,
          candidate 0x09 (span lo hi ∷ q.others)
              (completes_more a 0x09 us (span lo hi ∷ q.others) w.0 w.1
              (λ x v z. at lo hi q.others x v z (omega arith) (omega arith) (leb 0x09 x) refl) c),
        )
      where
        at : (lo hi : ℕ) (os : List Transaction) (x : ℕ) → a ≤ x → x ≤ 0x09 → lo ≤ a → 0x09 ≤ hi → (b : Bool) → leb 0x09 x ≡ b
            → ((0x09 ≤ x) × (x ≤ 0x09)) ⊎ Touched (span lo hi ∷ os) x
        at lo hi os x v z l m true f = inl (leb-true 0x09 x f, z)
        at lo hi os x v z l m false f = let d = leb-false 0x09 x f in let n = span_size lo hi in inr (inl (omega arith))

    -- the plan's start: no other weighs less, and none before it as little
    pub start_is : FirstLeast flip_weight further_starts first_start start
    unfolding preparing_start
    start_is = first-least flip_weight further_starts first_start

    -- the plan weighs no more than that for another start
    pub start-least : (a : ℕ) → first_start ≤ a → a ≤ 0x09 → flip_weight start ≤ flip_weight a
    start-least a g h = split (ltb a start) refl
      where
        split : (b : Bool) → ltb a start ≡ b → flip_weight start ≤ flip_weight a
        split true e = omega (arith, start_is.before a g (ltb-true a start e))
        split false e = start_is.after a (ltb-false a start e) (omega arith)

    -- and one that weighs as little starts no earlier
    pub start_first : (a : ℕ) → first_start ≤ a → flip_weight a ≤ flip_weight start → start ≤ a
    start_first a g h = split (ltb a start) refl
      where
        split : (b : Bool) → ltb a start ≡ b → start ≤ a
        split true e = absurd (omega (arith, start_is.before a g (ltb-true a start e)))
        split false e = ltb-false a start e

    -- no list weighs less than the plan, and one that starts at 00 to 03 weighs more
    pub lightest : (a : ℕ) (us : List Transaction) → a ≤ 0x09 → Completes a us
        → (flip_weight start ≤ whole a us) × (a < 0x04 → flip_weight start < whole a us)
    lightest a us h c = split (ltb a 0x04) refl
      where
        split : (b : Bool) → ltb a 0x04 ≡ b → (flip_weight start ≤ whole a us) × (a < 0x04 → flip_weight start < whole a us)
        split true e =
            let d = from_low a us (ltb-true a 0x04 e) c in
            let f = start-least 0x09 (omega arith) (omega arith) in
            (omega arith, λ z. omega arith)
        split false e =
            let d = ltb-false a 0x04 e in
            (omega (arith, start-least a (omega arith) (omega arith), candidate a us c), λ z. absurd (omega arith))
