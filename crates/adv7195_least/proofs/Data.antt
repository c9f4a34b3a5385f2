-- A list with the starts and lengths of the plan, that keeps the order and ends in the wanted image, is the plan. Assumes nothing.
use mathlib.Core.Path.{◌≡◌, refl, sym, ap, ap₂, ◌∙◌, subst}
use mathlib.Core.Logic.{inl, ⊎_elim}
use mathlib.Core.Bool.{Bool, true, false}
use mathlib.Core.List.{List, ◌∷◌}
use Prim.Native.Nat.{ℕ}
use native.Mathlib.Omega.{arith}
use lib.Dec.{leb, eqb}
use lib.ListN.{length, get_or}
use lib.Seq.{get_or-set_same, get_or-set_other}
use borrow.Author.Tests.{leb-true, leb-false, eqb-true}
use Rattle.bus.specs.Transactions.{Transaction, size, end}
use Rattle.bus.specs.Chip.{Chip}
use Rattle.bus.specs.Run.{idle_at, after}
use Rattle.bus.proofs.Play.{run-list, touched_or_same}
use Rattle.bus.proofs.After.{next, length-next, touched-next}
use Rattle.least_cost.specs.Order.{Ascending, Holds, SameSpans}
use Rattle.least_cost.proofs.Ends.{ascending-holds}
use Rattle.least_cost.proofs.Spans.{same_transaction, spans_ascending, spans_touched, same-list}
use Rattle.adv7195_bus.specs.Kind.{register_count, adv7195}
use Rattle.adv7195_bus.specs.Rules.{Rules}
use Rattle.adv7195_bus.specs.Order.{interpolation, byte_for}
use Rattle.adv7195_bus.proofs.RuleLaws.{rules-kept}
use Rattle.adv7195_bus.proofs.OrderLaws.{touches_in}
use Rattle.adv7195_least.specs.Reaching.{Change}
use Rattle.adv7195_least.specs.Plan.{plan_for, beside, preparing, flip_plan, preparing_start}
use Rattle.adv7195_least.proofs.TaskLaws.{all-kept, Fitting, plan-is, plan-holds}
use Rattle.adv7195_least.proofs.Orders.{Going, goes_on, ascending-leaves}
use Rattle.adv7195_least.proofs.Differing.{beside-writable}
use Rattle.adv7195_least.proofs.Candidates.{start_is}
use Rattle.adv7195_least.proofs.Reached.{with_preparing, preparing-holds, preparing-end}
use Rattle.adv7195_least.proofs.Ties.{apart_from_lem}
use Rattle.bits.specs.Lists.{Every}

module _ (own : ℕ) (wanted : List ℕ) where
  -- an ascending list that ends in the wanted image holds its bytes
  holds-wanted : (us : List Transaction) (c : Chip) → Every Rules us → length c.registers ≡ register_count → Ascending 0 us
      → (after (adv7195 own) c us).registers ≡ wanted → Every (Holds (λ r. get_or wanted r 0)) us
  holds-wanted us c all n a e =
      subst (λ (w : List ℕ). Every (Holds (λ x. get_or w x 0)) us) e
      (ascending-holds (adv7195 own) us c 0 a (all-kept own us all) (omega arith))

  -- one with the starts and lengths of a plan is the plan
  pub same-plan : (need : ℕ → Bool) → Fitting need → (us : List Transaction) (c : Chip) → Every Rules us → length c.registers ≡ register_count
      → (after (adv7195 own) c us).registers ≡ wanted → SameSpans (plan_for need wanted) us → us ≡ plan_for need wanted
  same-plan need fits us c all n e s =
      same-list (λ r. get_or wanted r 0) (plan_for need wanted) us s (plan-holds need fits wanted)
      (holds-wanted us c all n (spans_ascending (plan_for need wanted) us 0 s (plan-is need fits wanted).ascending) e)

module _ (image wanted : List ℕ) (χ : Change image wanted) (own pointer : ℕ) where
  -- the plan's start
  abbrev start : ℕ
  start = preparing_start image wanted

  -- the plan's transactions after the first
  abbrev others : List Transaction
  others = plan_for (beside image wanted start) wanted

  -- the chip that holds the image
  abbrev chip : Chip
  chip = idle_at pointer image

  module _ (t : Transaction) (us : List Transaction) (g : Going own chip (t ∷ us) wanted) (e : start ≡ t.subaddress)
      (n : size (preparing wanted start) ≡ size t) (s : SameSpans others us) where
    -- the chip after its first transaction
    abbrev between : Chip
    between = next (adv7195 own) chip t

    -- the others end in the wanted image
    ends : (after (adv7195 own) between us).registers ≡ wanted
    ends = sym (ap (λ d. d.registers) (run-list (adv7195 own) own chip t us)) ∙ g.ends

    -- from as many registers
    length-is : length between.registers ≡ register_count
    length-is = length-next (adv7195 own) chip t ∙ χ.found

    -- the first transaction ends with 09
    end_is : end t ≡ 0x0a
    end_is =
        let q = preparing-end image wanted χ start (start_is image wanted χ).to in
        let a = q.0 in
        let b = q.1 in
        omega arith

    -- its byte for 09 is 3E: else no later one could flip MR36
    byte_09 : byte_for t 0x09 ≡ 0x3e
    byte_09 = split (eqb (byte_for t 0x09) 0x3e) refl
      where
        split : (b : Bool) → eqb (byte_for t 0x09) 0x3e ≡ b → byte_for t 0x09 ≡ 0x3e
        split true f = eqb-true (byte_for t 0x09) 0x3e f
        split false f =
            let x = end_is in
            let y = (start_is image wanted χ).to in
            let d = goes_on own chip t us wanted g (rw (touches_in t 0x09 (omega arith)) f) in
            absurd (d.flips (ascending-leaves own us false between 0
            (spans_ascending others us 0 s (plan-is (beside image wanted start) (beside-writable image wanted χ start) wanted).ascending)
            (inl refl) d.ordered
            ∙ ap interpolation ends))

    -- its other bytes are the wanted ones: no later one touches their registers
    holds-preparing : Holds (with_preparing wanted) t
    holds-preparing x u = split (leb 0x09 x) refl
      where
        split : (b : Bool) → leb 0x09 x ≡ b → byte_for t x ≡ with_preparing wanted x
        split true f =
            let d = leb-true 0x09 x f in
            let z = end_is in
            let m = χ.wants in
            let q : x ≡ 0x09 = omega arith in
            rw q (byte_09 ∙ sym (get_or-set_same wanted 0x09 0x3e 0 (omega arith)))
        split false f =
            let d = leb-false 0x09 x f in
            let m = χ.found in
            sym (touched-next (adv7195 own) chip t x (rules-kept own t g.rules.0) (omega arith) u)
            ∙ ⊎_elim (λ v. absurd (apart_from_lem image wanted χ x (omega arith) d (spans_touched others us x s v)))
            (λ v. sym v ∙ ap (λ (l : List ℕ). get_or l x 0) ends) (touched_or_same (adv7195 own) us between x)
            ∙ sym (get_or-set_other wanted 0x09 x 0x3e 0 (omega arith))

    -- so it is the plan
    pub same_flip : (t ∷ us) ≡ flip_plan image wanted start
    unfolding flip_plan
    same_flip =
        let q = (preparing-end image wanted χ start (start_is image wanted χ).to).0 in
        ap₂ ◌∷◌
        (same_transaction (with_preparing wanted) t (preparing wanted start) (sym e ∙ sym q) (sym n) holds-preparing (preparing-holds image wanted χ start))
        (same-plan own wanted (beside image wanted start) (beside-writable image wanted χ start) us between g.rules.1 length-is ends s)
