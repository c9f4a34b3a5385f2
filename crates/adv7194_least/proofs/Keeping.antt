-- A transaction of the plan keeps the three rules and the limit, has data, and is one that the packing can hold. Assumes nothing.
use mathlib.Core.Path.{◌≡◌, refl, sym, ◌∙◌}
use mathlib.Core.Logic.{◌⊎◌, inl, inr, ⊎_elim}
use mathlib.Core.Bool.{Bool, true, false, false≢true}
use Prim.Native.Nat.{ℕ, suc, ◌-◌, ◌^◌, ◌≤◌, ◌<◌}
use native.Mathlib.Omega.{arith}
use lib.Dec.{ltb}
use borrow.Author.Tests.{ltb-true, ltb-false}
use Rattle.bus.specs.Transactions.{Transaction, size, end, Touches}
use Rattle.bus.proofs.Acknowledged.{Fits}
use Rattle.unpacking.proofs.Tests.{Encodable}
use Rattle.adv7194_bus.specs.Kind.{adv7194}
use Rattle.adv7194_bus.specs.Rules.{Rules}
use Rattle.bus.proofs.After.{later}
use Rattle.least_cost.proofs.Attained.{Right}
use Rattle.least_cost.proofs.Held.{holds-bytes}
use Rattle.adv7194_least.specs.Plan.{task_for}
use Rattle.bus.proofs.RegisterLaws.{among?}
use Rattle.adv7194_least.proofs.Registers.{Writable}
use Rattle.adv7194_least.proofs.TaskLaws.{Permits, need-word, takes_facts, cut_inside, needed-may, may_facts}

module _ (limit : ℕ) (must may : ℕ → Bool) (π : Permits limit must may) (want : ℕ → ℕ) where
  -- its registers may be written
  pub right-may : (t : Transaction) → Right (task_for limit must may) want t → (x : ℕ) → Touches t x → may x ≡ true
  unfolding task_for
  right-may t h x u = split (later t.subaddress x u.0)
    where
      split : (x ≡ t.subaddress) ⊎ (suc t.subaddress ≤ x) → may x ≡ true
      split (inl e) = rw e (needed-may limit must may π t.subaddress h.first)
      split (inr a) = (takes_facts limit must may t.subaddress x (h.takes x a u.1)).0

  right-writable : (t : Transaction) → Right (task_for limit must may) want t → (x : ℕ) → Touches t x → Writable x
  right-writable t h x u = may_facts limit must may π x (right-may t h x u)

  -- it has no more data than the limit
  pub right-within : (t : Transaction) → Right (task_for limit must may) want t → size t ≤ limit
  right-within t h = split (ltb 1 (size t)) refl
    where
      split : (b : Bool) → ltb 1 (size t) ≡ b → size t ≤ limit
      split true e =
          let d = ltb-true 1 (size t) e in
          omega (arith, (takes_facts limit must may t.subaddress (end t - 1) (h.takes (end t - 1) (omega arith) (omega arith))).1)
      split false e = omega (arith, ltb-false 1 (size t) e, π.least)

  -- where it has one register of the word, it starts at or before the first of them
  before-word : (t : Transaction) → Right (task_for limit must may) want t → (x : ℕ) → Touches t x → (0x0c ≤ x) × (x ≤ 0x0f) → t.subaddress ≤ 0x0c
  unfolding task_for
  before-word t h x u w =
      ⊎_elim
      (λ a.
      let w = sym (need-word must t.subaddress (omega arith) a.1) ∙ h.first in
      absurd (false≢true (sym (cut_inside limit must may t.subaddress a.0 a.1 w) ∙ h.opens)))
      (λ a. ⊎_elim (λ b. omega arith) (λ b. absurd (omega arith)) a) (among? 0x0d 0x0f t.subaddress)

  -- and ends past the last of them
  past_word : (t : Transaction) → Right (task_for limit must may) want t → (x : ℕ) → Touches t x → (0x0c ≤ x) × (x ≤ 0x0f) → 0x0f < end t
  unfolding task_for
  past_word t h x u w =
      ⊎_elim
      (λ a.
      let w = sym (need-word must (end t - 1) (omega arith) (omega arith)) ∙ h.last in
      absurd (false≢true (sym (cut_inside limit must may (end t) a.0 a.1 w) ∙ h.ends)))
      (λ a. ⊎_elim (λ b. absurd (omega arith)) (λ b. b) a) (among? 0x0d 0x0f (end t))

  -- it keeps the rules
  pub right-rules : (t : Transaction) → Right (task_for limit must may) want t → Rules t
  right-rules t h = record {
    inside = λ x u. let q = right-writable t h x u in (q.inside, q.kept);
    whole = λ x u w q v. (omega (arith, before-word t h x u w), omega (arith, past_word t h x u w));
    captions = λ x u c. ⊎_elim {C = ⊥} (λ z. omega arith) (λ z. omega arith) (right-writable t h x u).quiet;
  }

  -- the chip has registers for its data
  pub right-fits : (own : ℕ) (t : Transaction) → Right (task_for limit must may) want t → Fits (adv7194 own) t
  right-fits own t h = record { some = h.some; ends = omega (arith, h.some, (right-writable t h (end t - 1) (omega (arith, h.some))).inside) }

  -- the packing can hold it, where the wanted numbers are bytes
  pub right-encodable : ((x : ℕ) → want x < 2 ^ 8) → (t : Transaction) → Right (task_for limit must may) want t → Encodable t
  right-encodable b t h =
      let e = (right-fits 0 t h).ends in
      let s = h.some in
      record { subaddress = omega arith; some = s; count = omega arith; bytes = holds-bytes want b t h.holds }
