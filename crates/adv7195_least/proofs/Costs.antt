-- Demand 3: no list that keeps the rule and the order and ends in the wanted image costs less than the plan, and every other that costs as little comes after
-- it. Assumes nothing.
use mathlib.Core.Path.{◌≡◌, refl, sym, ap, ◌∙◌, subst⁻¹}
use mathlib.Core.Logic.{◌⊎◌, inl, inr, ⊎_elim, ◌≢◌}
use mathlib.Core.Bool.{Bool, true, false, xor, false≢true}
use mathlib.Core.List.{List, [], ◌∷◌}
use Prim.Native.Nat.{ℕ, ◌*◌, ◌≤◌}
use native.Mathlib.Omega.{arith}
use lib.Dec.{ltb, eqb}
use lib.ListN.{length, get_or}
use borrow.Author.Tests.{ltb-true, ltb-false, eqb-false, not-true}
use Rattle.bus.specs.Registers.{differs}
use Rattle.bus.specs.Transactions.{Transaction, size, end, Touches, Touched, bus_bytes, touches}
use Rattle.bus.specs.Chip.{Chip}
use Rattle.bus.specs.Run.{idle_at}
use Rattle.bus.proofs.Play.{touched_or_same}
use Rattle.bus.proofs.After.{next}
use Rattle.bus.proofs.RegisterLaws.{not_both}
use Rattle.least_cost.specs.Order.{NoDearer, Before, IsPlan}
use Rattle.least_cost.specs.Weight.{byte_weight, weights}
use Rattle.least_cost.proofs.WeightLaws.{weights-is, no_dearer, no_heavier}
use Rattle.least_cost.proofs.First.{leads_more}
use Rattle.adv7195_bus.specs.Kind.{adv7195}
use Rattle.adv7195_bus.specs.Rules.{Rules}
use Rattle.adv7195_bus.specs.Order.{interpolation, flipped}
use Rattle.adv7195_bus.proofs.OrderLaws.{touched?, ordered_from}
use Rattle.adv7195_least.specs.Reaching.{Change, Reaches}
use Rattle.adv7195_least.specs.Plan.{plan_for, restores, beside, preparing, flip_plan, preparing_start, plan_of}
use Rattle.adv7195_least.specs.Demands.{Least, First}
use Rattle.adv7195_least.proofs.TaskLaws.{bound, plan-is, plan_light, plan-before}
use Rattle.adv7195_least.proofs.Orders.{xor_false, xor_self, not_prepared, Going, goes_on, goes_9, goes_first, Apart, apart}
use Rattle.adv7195_least.proofs.Differing.{differs-writable, beside-writable}
use Rattle.adv7195_least.proofs.Candidates.{low_end, Completes, whole, flip_weight, flip_weighs, completes_touched, candidate, start_is, start_first, lightest}
use Rattle.adv7195_least.proofs.Reached.{preparing-end, steady_reaches, flip_reaches}
use Rattle.adv7195_least.proofs.Ties.{past_09}
use Rattle.adv7195_least.proofs.Data.{same-plan, same_flip}
use Rattle.bits.specs.Lists.{Every}

-- two bits that differ are not one
xor_true : (a b : Bool) → xor a b ≡ true → a ≢ b
xor_true a b e d = false≢true (sym (rw d (xor_self b)) ∙ e)

module _ (image wanted : List ℕ) (χ : Change image wanted) (own pointer : ℕ) where
  -- the plan's start
  abbrev start : ℕ
  start = preparing_start image wanted

  -- the chip that holds the image
  abbrev chip : Chip
  chip = idle_at pointer image

  -- a list that ends in the wanted image touches what differs
  touches-all : (us : List Transaction) → Reaches own pointer image wanted us → (x : ℕ) → differs image wanted x ≡ true → Touched us x
  touches-all us q x d =
      ⊎_elim (λ t. t) (λ s. absurd (not_both image wanted x d (sym s ∙ ap (λ (m : List ℕ). get_or m x 0) q.ends)))
      (touched_or_same (adv7195 own) us chip x)

  -- 09 doesn't end in 3E where it is restored
  not_3e : restores wanted ≡ true → get_or wanted 0x09 0 ≢ 0x3e
  not_3e e = eqb-false (get_or wanted 0x09 0) 0x3e (not-true (eqb (get_or wanted 0x09 0) 0x3e) e)

  -- ---- where MR36 stays

  -- the plan there
  abbrev steady : List Transaction
  steady = plan_for (differs image wanted) wanted

  -- no list weighs less
  steady_lightest : (us : List Transaction) → Reaches own pointer image wanted us → weights steady ≤ weights us
  steady_lightest us q =
      let fits = differs-writable image wanted χ in
      omega (arith, (plan-is (differs image wanted) fits wanted).weighs, bound (differs image wanted) fits us q.rules (touches-all us q))

  -- and one that weighs no more comes after it or is it
  steady_first : (us : List Transaction) → Reaches own pointer image wanted us → weights us ≤ weights steady → Before steady us ⊎ (us ≡ steady)
  steady_first us q h =
      let fits = differs-writable image wanted χ in
      ⊎_elim inl (λ s. inr (same-plan own wanted (differs image wanted) fits us chip q.rules χ.found q.ends s))
      (plan-before (differs image wanted) fits wanted us q.rules (touches-all us q) h)

  -- ---- where it flips

  -- such a list keeps the order from the first transaction on and ends with another MR36
  going : interpolation image ≢ interpolation wanted → (us : List Transaction) → Reaches own pointer image wanted us → Going own chip us wanted
  going d us q = record { rules = q.rules; ordered = ordered_from (adv7195 own) us chip q.ordered; ends = q.ends; flips = d; size = χ.found }

  -- a list that touches what differs, with a transaction that touches 09 set apart: the others do what is left
  completed : (us : List Transaction) → ((x : ℕ) → differs image wanted x ≡ true → Touched us x) → (a : Apart own us (get_or wanted 0x09 0 ≢ 0x3e))
      → Completes image wanted a.pull.transaction.subaddress a.pull.others
      × ((a.pull.transaction.subaddress ≤ 0x09) × (weights us ≡ whole image wanted a.pull.transaction.subaddress a.pull.others))
  completed us f a =
      let q = a.pull in
      let u = q.touch in
      let e = low_end q.transaction q.has 0x09 (omega arith) u in (
        record {
          rules = q.every;
          covers = λ x d. ⊎_elim (λ v. inl (omega arith)) inr (q.splits x (f x d));
          flips = a.flips;
          restored = λ z. a.restored (not_3e z);
        },
        (u.0, omega (arith, q.weighs)),
      )

  -- no list weighs less than the plan
  flip_lightest : interpolation image ≢ interpolation wanted → (us : List Transaction) → Reaches own pointer image wanted us
      → flip_weight image wanted start ≤ weights us
  flip_lightest d us q =
      let a = apart own us chip wanted (going d us q) in
      let c = completed us (touches-all us q) a in
      omega (arith, (lightest image wanted χ a.pull.transaction.subaddress a.pull.others c.1.0 c.0).0, c.1.1)

  -- the first transaction of a list as light touches 09
  module _ (t : Transaction) (us : List Transaction) (g : Going own chip (t ∷ us) wanted)
      (f : (x : ℕ) → differs image wanted x ≡ true → Touched (t ∷ us) x) (h : weights (t ∷ us) ≤ flip_weight image wanted start) (u : Touches t 0x09) where
    -- then it ends with 09
    end_is : end t ≤ 0x0a
    end_is = low_end t g.rules.0 0x09 (omega arith) u

    -- and the others do what is left
    does : Completes image wanted t.subaddress us
    does =
        let e = end_is in
        let later = goes_first own chip t us wanted g u in
        record {
          rules = g.rules.1;
          covers = λ x d. ⊎_elim (λ v. inl (omega arith)) inr (f x d);
          flips = later.0;
          restored = λ z. later.1 (not_3e z);
        }

    -- so it starts no earlier than the plan
    no_earlier : start ≤ t.subaddress
    unfolding weights
    no_earlier = low (ltb t.subaddress 0x04) refl
      where
        low : (b : Bool) → ltb t.subaddress 0x04 ≡ b → start ≤ t.subaddress
        low true e = let z = end_is in absurd (omega (arith, (lightest image wanted χ t.subaddress us u.0 does).1 (ltb-true t.subaddress 0x04 e)))
        low false e =
            let z = end_is in
            start_first image wanted χ t.subaddress (ltb-false t.subaddress 0x04 e)
            (omega (arith, candidate image wanted χ t.subaddress us does))

    -- and the list comes after the plan or is it
    first-touches : Before (flip_plan image wanted start) (t ∷ us) ⊎ ((t ∷ us) ≡ flip_plan image wanted start)
    unfolding flip_plan weights
    first-touches = split (ltb start t.subaddress) refl
      where
        split : (b : Bool) → ltb start t.subaddress ≡ b
            → Before (flip_plan image wanted start) (t ∷ us) ⊎ ((t ∷ us) ≡ flip_plan image wanted start)
        split true e = inl (inl (omega (arith, ltb-true start t.subaddress e, (preparing-end image wanted χ start (start_is image wanted χ).to).0)))
        split false e =
            let z = end_is in
            let d = ltb-false start t.subaddress e in
            let l = no_earlier in
            let q = preparing-end image wanted χ start (start_is image wanted χ).to in
            let q0 = q.0 in
            let q1 = q.1 in
            let n : size (preparing wanted start) ≡ size t = omega arith in
            let same : start ≡ t.subaddress = omega arith in
            let touched = completes_touched image wanted χ start us (subst⁻¹ (λ a. Completes image wanted a us) same does) in
            ⊎_elim inl (λ s. inr (same_flip image wanted χ own pointer t us g same n s.1.1))
            (leads_more (preparing wanted start) t (plan_for (beside image wanted start) wanted) us (omega arith) (omega arith)
            (λ k. plan-before (beside image wanted start) (beside-writable image wanted χ start) wanted us g.rules.1 touched
            (omega (arith, flip_weighs image wanted χ start))))

  -- or it starts past 09
  first_waits : (t : Transaction) (us : List Transaction) → Every Rules (t ∷ us) → ((x : ℕ) → differs image wanted x ≡ true → Touched (t ∷ us) x)
      → weights (t ∷ us) ≤ flip_weight image wanted start → touches t 0x09 ≡ false → Apart own us (get_or wanted 0x09 0 ≢ 0x3e)
      → Before (flip_plan image wanted start) (t ∷ us)
  unfolding flip_plan weights
  first_waits t us all f h e a =
      let q = a.pull in
      let u = q.touch in
      let z = low_end q.transaction q.has 0x09 (omega arith) u in
      let w = q.weighs in
      let p = past_09 image wanted χ q.transaction.subaddress u.0 t q.others
      (record {
        rules = (all.0, q.every);
        covers = λ x d. ⊎_elim (λ v. inr (inl v)) (λ v. ⊎_elim (λ k. inl (omega arith)) (λ k. inr (inr k)) (q.splits x v)) (f x d);
        flips = inr a.flips;
        restored = λ k. inr (a.restored (not_3e k));
      })
      a.flips (λ k. a.restored (not_3e k)) (omega arith) e in
      inl (omega (arith, p, (start_is image wanted χ).to, (preparing-end image wanted χ start (start_is image wanted χ).to).0))

  -- so a list that weighs no more comes after the plan or is it
  flip_first : interpolation image ≢ interpolation wanted → (us : List Transaction) → Reaches own pointer image wanted us
      → weights us ≤ flip_weight image wanted start → Before (flip_plan image wanted start) us ⊎ (us ≡ flip_plan image wanted start)
  flip_first d [] q h = absurd (goes_9 own [] chip wanted (going d [] q))
  flip_first d (t ∷ us) q h = split (touched? t 0x09)
    where
      g : Going own chip (t ∷ us) wanted
      g = going d (t ∷ us) q

      split : Touches t 0x09 ⊎ (touches t 0x09 ≡ false) → Before (flip_plan image wanted start) (t ∷ us) ⊎ ((t ∷ us) ≡ flip_plan image wanted start)
      split (inl u) = first-touches t us g (touches-all (t ∷ us) q) h u
      split (inr e) =
          inl (first_waits t us q.rules (touches-all (t ∷ us) q) h e
          (apart own us (next (adv7195 own) chip t) wanted (goes_on own chip t us wanted g (not_prepared own t e))))

  -- ---- the plan

  -- a list is the plan among those that keep the rule and the order and end in the wanted image
  abbrev Best : List Transaction → Type 0
  Best ts = IsPlan (Reaches own pointer image wanted) ts

  -- where MR36 stays
  steady_best : flipped image wanted ≡ false → Best steady
  steady_best e =
      let l = plan_light (differs image wanted) (differs-writable image wanted χ) wanted in
      let few : bus_bytes steady ≤ 2 * byte_weight = omega (arith, weights-is steady) in
      record {
        reaches = steady_reaches image wanted χ own pointer (xor_false (interpolation image) (interpolation wanted) e);
        least = λ us q. no_dearer steady us (steady_lightest us q) few;
        first = λ us q h. steady_first us q (no_heavier us steady h few);
      }

  -- where it flips
  flip_best : flipped image wanted ≡ true → Best (flip_plan image wanted start)
  flip_best e =
      let d = xor_true (interpolation image) (interpolation wanted) e in
      let s = start_is image wanted χ in
      let l = plan_light (beside image wanted start) (beside-writable image wanted χ start) wanted in
      let few : bus_bytes (flip_plan image wanted start) ≤ 2 * byte_weight =
      omega (arith, flip_weighs image wanted χ start, weights-is (flip_plan image wanted start)) in
      record {
        reaches = flip_reaches image wanted χ own pointer start s.from s.to;
        least = λ us q. no_dearer (flip_plan image wanted start) us (flip_lightest d us q) few;
        first = λ us q h. flip_first d us q (no_heavier us (flip_plan image wanted start) h few);
      }

  -- so of the plan
  plan-best : Best (plan_of image wanted)
  unfolding plan_of
  plan-best = split (flipped image wanted) refl
    where
      split : (b : Bool) → flipped image wanted ≡ b → Best (plan_of image wanted)
      split true e = rw e (flip_best e)
      split false e = rw e (steady_best e)

module _ (image wanted : List ℕ) (χ : Change image wanted) where
  -- the plan keeps the rule and the order and ends in the wanted image
  pub plan-reaches : (own pointer : ℕ) → Reaches own pointer image wanted (plan_of image wanted)
  plan-reaches own pointer = (plan-best image wanted χ own pointer).reaches

  -- demand 3 of the plan's numbers
  pub plan-least : Least image wanted (length (plan_of image wanted)) (bus_bytes (plan_of image wanted))
  unfolding Least NoDearer
  plan-least own pointer us q = (plan-best image wanted χ own pointer).least us q

  -- it is the plan: every such list that costs no more comes after it or is it
  pub plan-first : First image wanted (plan_of image wanted)
  unfolding First
  plan-first own pointer = plan-best image wanted χ own pointer
