-- The plan keeps the rule and the order, and ends in the wanted image. Assumes nothing.
use mathlib.Core.Path.{◌≡◌, refl, sym, ap, ◌∙◌}
use mathlib.Core.Logic.{◌⊎◌, inl, inr, ⊎_elim}
use mathlib.Core.Bool.{Bool, true, false, false≢true}
use mathlib.Core.List.{List, ◌∷◌}
use Prim.Native.Nat.{ℕ, ◌+◌, ◌-◌, ◌≤◌, ◌<◌}
use native.Mathlib.Omega.{arith}
use lib.Dec.{leb, eqb}
use lib.ListN.{get_or, set, take}
use lib.Seq.{get_or-drop, get_or-take, get_or-set_same, get_or-set_other}
use borrow.Author.Tests.{leb-true, leb-false, eqb-true, eq-eqb}
use Rattle.bus.specs.Registers.{differs}
use Rattle.bus.specs.Transactions.{Transaction, end, Touches, Touched}
use Rattle.bus.specs.Chip.{Chip}
use Rattle.bus.specs.Run.{idle_at}
use Rattle.bus.proofs.Play.{touches?, run-list}
use Rattle.bus.proofs.After.{next, length-next, touched-next, other_next}
use Rattle.bus.proofs.RegisterLaws.{among_out, differs_or_same}
use Rattle.least_cost.specs.Order.{Holds}
use Rattle.least_cost.proofs.Held.{ends-wanted}
use Rattle.adv7195_bus.specs.Kind.{register_count, adv7195}
use Rattle.adv7195_bus.specs.Rules.{Rules}
use Rattle.adv7195_bus.specs.Order.{interpolation, byte_for, prepared_by}
use Rattle.adv7195_bus.proofs.RuleLaws.{rules-kept}
use Rattle.adv7195_bus.proofs.OrderLaws.{touched?, touches_in, from_ordered}
use Rattle.adv7195_least.specs.Reaching.{Change, Reaches}
use Rattle.adv7195_least.specs.Plan.{plan_for, restores, beside, preparing, flip_plan}
use Rattle.adv7195_least.proofs.TaskLaws.{all-kept, plan-is, plan-covers, plan-rules, plan-holds}
use Rattle.adv7195_least.proofs.Orders.{no_flip, in_order, in_order_steady}
use Rattle.adv7195_least.proofs.Differing.{beside_other, beside_09, differs-writable, beside-writable}
use Rattle.adv7195_least.proofs.Candidates.{preparing-size}

-- the wanted registers with 3E for 09
abbrev pub with_preparing : List ℕ → ℕ → ℕ
with_preparing wanted r = get_or (set wanted 0x09 0x3e) r 0

-- 09 is restored, or 3E is wanted there
restores? : (wanted : List ℕ) → (restores wanted ≡ true) ⊎ (get_or wanted 0x09 0 ≡ 0x3e)
restores? wanted = split (eqb (get_or wanted 0x09 0) 0x3e) refl
  where
    split : (b : Bool) → eqb (get_or wanted 0x09 0) 0x3e ≡ b → (restores wanted ≡ true) ⊎ (get_or wanted 0x09 0 ≡ 0x3e)
    split true e = inr (eqb-true (get_or wanted 0x09 0) 0x3e e)
    split false e = inl (rw e)

module _ (image wanted : List ℕ) (χ : Change image wanted) where
  -- the data of the transaction that ends with 3E
  pub preparing-holds : (a : ℕ) → Holds (with_preparing wanted) (preparing wanted a)
  unfolding preparing
  preparing-holds a x u =
      let n = preparing-size image wanted χ a in
      let e : a + (x - a) ≡ x = omega arith in
      get_or-drop a (take 0x0a (set wanted 0x09 0x3e)) (x - a) 0
      ∙ rw e (get_or-take 0x0a (set wanted 0x09 0x3e) x 0 (omega (arith, n)))

  -- it ends at 09
  pub preparing-end : (a : ℕ) → a ≤ 0x09 → ((preparing wanted a).subaddress ≡ a) × (end (preparing wanted a) ≡ 0x0a)
  unfolding preparing
  preparing-end a h = (refl, omega (arith, preparing-size image wanted χ a))

  -- so it keeps the rule
  preparing-rules : (a : ℕ) → a ≤ 0x09 → Rules (preparing wanted a)
  preparing-rules a h = let e = (preparing-end a h).1 in record { inside = λ r u. (omega arith, among_out 0x0a 0x0f r (inl (omega arith))) }

  module _ (own pointer : ℕ) where
    -- the plan where MR36 stays
    pub steady_reaches : interpolation image ≡ interpolation wanted → Reaches own pointer image wanted (plan_for (differs image wanted) wanted)
    steady_reaches e =
        let need : ℕ → Bool = differs image wanted in
        let fits = differs-writable image wanted χ in
        let all = plan-rules need fits wanted in
        record {
          rules = all;
          ordered = from_ordered (adv7195 own) (plan_for need wanted) (idle_at pointer image)
              (in_order_steady own wanted (plan_for need wanted) false (idle_at pointer image) (all-kept own (plan_for need wanted) all)
              (plan-holds need fits wanted) χ.found e);
          ends = ends-wanted (adv7195 own) wanted (plan_for need wanted) (idle_at pointer image) (χ.found ∙ sym χ.wants)
              (all-kept own (plan_for need wanted) all) (plan-holds need fits wanted)
              (λ r h. ⊎_elim (λ d. inl (plan-covers need fits wanted r d)) inr (differs_or_same image wanted r));
        }

    -- the plan that flips MR36, for a start of its own
    module _ (a : ℕ) (low : 0x04 ≤ a) (high : a ≤ 0x09) where
      -- its first transaction
      abbrev first : Transaction
      first = preparing wanted a

      -- the others
      abbrev rest : List Transaction
      rest = plan_for (beside image wanted a) wanted

      -- the chip before it
      abbrev chip : Chip
      chip = idle_at pointer image

      -- a register after the first transaction: one that it touches, or another
      abbrev Leaves : ℕ → Type 0
      Leaves r =
          (((a ≤ r) × (r ≤ 0x09)) × (get_or (next (adv7195 own) chip first).registers r 0 ≡ with_preparing wanted r))
          ⊎ (((r < a) ⊎ (0x09 < r)) × (get_or (next (adv7195 own) chip first).registers r 0 ≡ get_or image r 0))

      -- is as the transaction has it, or as it was
      first-leaves : (r : ℕ) → r < register_count → Leaves r
      first-leaves r h =
          let e = preparing-end a high in
          let x = e.0 in
          let y = e.1 in
          let n = χ.found in
          ⊎_elim
          (λ u. inl (
            omega arith,
            touched-next (adv7195 own) chip first r (rules-kept own first (preparing-rules a high)) (omega arith) u
                ∙ preparing-holds a r u,
          ))
          (λ u. inr (⊎_elim (λ v. inl (omega arith)) (λ v. inr (omega arith)) u, other_next (adv7195 own) chip first r u))
          (touches? first r)

      -- what it leaves is touched by the rest or is as wanted
      touched_or_right : (r : ℕ) → r < register_count → Touched rest r ⊎ (get_or (next (adv7195 own) chip first).registers r 0 ≡ get_or wanted r 0)
      touched_or_right r h = split (first-leaves r h)
        where
          at : (b : Bool) → leb 0x09 r ≡ b → r ≤ 0x09 → Touched rest r ⊎ (with_preparing wanted r ≡ get_or wanted r 0)
          at false e g = let d = leb-false 0x09 r e in inr (get_or-set_other wanted 0x09 r 0x3e 0 (omega arith))
          at true e g =
              let d = leb-true 0x09 r e in
              let n = χ.wants in
              let q : r ≡ 0x09 = omega arith in
              rw q (⊎_elim
              (λ z. inl (plan-covers (beside image wanted a) (beside-writable image wanted χ a) wanted 0x09 (beside_09 image wanted a z)))
              (λ z. inr (get_or-set_same wanted 0x09 0x3e 0 (omega arith) ∙ sym z)) (restores? wanted))

          split : Leaves r → Touched rest r ⊎ (get_or (next (adv7195 own) chip first).registers r 0 ≡ get_or wanted r 0)
          split (inl (u, e)) = ⊎_elim inl (λ z. inr (e ∙ z)) (at (leb 0x09 r) refl u.1)
          split (inr (u, e)) =
              ⊎_elim (λ d. inl (plan-covers (beside image wanted a) (beside-writable image wanted χ a) wanted r (beside_other image wanted a r d u)))
              (λ z. inr (e ∙ z)) (differs_or_same image wanted r)

      -- after it the last byte for 09 is 3E
      first_prepares : prepared_by false first ≡ true
      first_prepares =
          let e = preparing-end a high in
          let x = e.0 in
          let y = e.1 in
          let n = χ.wants in
          let u : Touches first 0x09 = omega arith in
          rw (touches_in first 0x09 u) (eq-eqb (byte_for first 0x09) 0x3e
          (preparing-holds a 0x09 u ∙ get_or-set_same wanted 0x09 0x3e 0 (omega arith)))

      -- so it keeps the rule and the order and ends in the wanted image
      pub flip_reaches : Reaches own pointer image wanted (flip_plan image wanted a)
      unfolding flip_plan
      flip_reaches =
          let need : ℕ → Bool = beside image wanted a in
          let fits = beside-writable image wanted χ a in
          let all = plan-rules need fits wanted in
          let e = (preparing-end a high).0 in
          record {
            rules = (preparing-rules a high, all);
            ordered = from_ordered (adv7195 own) (first ∷ rest) chip (
              λ f. absurd (false≢true (sym (no_flip own chip first (⊎_elim (λ u. absurd (omega arith)) (λ u. u) (touched? first 0x03))) ∙ f)),
              in_order own rest (prepared_by false first) (next (adv7195 own) chip first) 0 (plan-is need fits wanted).ascending (λ h. first_prepares),
            );
            ends = ap (λ c. c.registers) (run-list (adv7195 own) own chip first rest)
                ∙ ends-wanted (adv7195 own) wanted rest (next (adv7195 own) chip first) (length-next (adv7195 own) chip first ∙ χ.found ∙ sym χ.wants)
                (all-kept own rest all) (plan-holds need fits wanted) (λ r h. touched_or_right r (rw χ.wants at h));
          }
