-- A register of the plan that isn't needed lies between two needed ones, with none between, all three in one transaction. Assumes nothing.
use mathlib.Core.Path.{◌≡◌, refl, sym, ◌∙◌}
use mathlib.Core.Logic.{◌⊎◌, inl, inr, ⊎_elim}
use mathlib.Core.Bool.{true, false, false≢true}
use mathlib.Core.List.{List}
use Prim.Native.Nat.{ℕ, suc, ◌-◌, ◌≤◌, ◌<◌}
use native.Mathlib.Nat.{eq-or-lt_of_le}
use native.Mathlib.Omega.{arith}
use borrow.Author.Tests.{lt-ltb, eq-eqb}
use Rattle.bus.specs.Transactions.{Transaction, end, Touches}
use Rattle.adv7194_bus.specs.Kind.{register_count}
use Rattle.adv7194_bus.specs.Rules.{Rules}
use Rattle.adv7194_table.specs.Fields.{timing, output, picture, dnr}
use Rattle.adv7194_table.specs.Table.{table}
use Rattle.adv7194_table.specs.Masks.{mask_where, field_mask, zero_mask}
use Rattle.least_cost.proofs.Attained.{Right}
use Rattle.adv7194_least.specs.Aim.{Aim, must}
use Rattle.adv7194_least.specs.Change.{settable, Change}
use Rattle.adv7194_least.specs.Plan.{word_in, task_for, may, needed, task, byte_of, plan_of}
use Rattle.bus.proofs.RegisterLaws.{among?}
use Rattle.adv7194_least.proofs.TaskLaws.{need-word, need_other}
use Rattle.adv7194_least.proofs.Differing.{permits}
use Rattle.adv7194_least.proofs.Keeping.{right-rules}
use Rattle.adv7194_least.proofs.Bridges.{plan_bridges}
use Rattle.adv7194_reasons.specs.Reasons.{bridge, joined, next_below, next_above, holds}
use Rattle.adv7194_reasons.proofs.NextLaws.{NextBelow, NextFrom, below-found, from_found, from_is}
use Rattle.adv7194_reasons.proofs.SentLaws.{TouchedIn}

-- the register before the word has no field and no must-be-zero bit
before-word : settable 0x0b ≡ false
unfolding settable field_mask zero_mask mask_where table timing output picture dnr
before-word = refl

-- the needed registers next below and next above, in one transaction, are those of a bridge
bridge_of : (a : Aim) (ts : List Transaction) (r i j : ℕ) → must a r ≡ false → NextBelow (must a) r i → NextFrom (must a) (suc r) j
    → j < register_count → joined ts i j ≡ true → holds a ts r (bridge i j) ≡ true
bridge_of a ts r i j m b f h e =
    rw (
      lt-ltb i r b.under,
      lt-ltb r j f.from,
      b.passes,
      f.passes,
      eq-eqb (next_above (must a) i) j (from_is (must a) (register_count - suc i) (suc i) j (omega arith) next),
      e,
    )
  where
    none : (x : ℕ) → i < x → x < j → ((r ≤ x) × (x ≤ r)) ⊎ ((x < r) ⊎ (r < x)) → must a x ≡ false
    none x u v (inl s) = let d : x ≡ r = omega arith in rw d m
    none x u v (inr (inl s)) = b.none x u s
    none x u v (inr (inr s)) = f.none x s v

    next : NextFrom (must a) (suc i) j
    next = record { from = omega (arith, b.under, f.from); passes = f.passes; none = λ x u v. none x u v (among? r r x) }

module _ (a : Aim) (χ : Change a) (r : ℕ) (q : TouchedIn (Right (task a) (byte_of a)) (plan_of a) r) (n : needed a r ≡ false) where
  -- the transaction that touches the register keeps the rules
  rules : Rules q.at
  rules = right-rules a.limit (must a) (may a) (permits a χ) (byte_of a) q.at q.is

  -- it starts before the register, and ends past it
  starts : q.at.subaddress < r
  unfolding task_for
  starts = ⊎_elim (λ e. absurd (false≢true (sym n ∙ rw e at q.is.first))) (λ l. l) (eq-or-lt_of_le q.has.0)

  ends : r < end q.at - 1
  unfolding task_for
  ends =
      ⊎_elim (λ e. absurd (false≢true (sym n ∙ rw (← e) at q.is.last))) (λ l. l)
      (eq-or-lt_of_le {n = r} {m = end q.at - 1} (omega (arith, q.has.1)))

  -- where it touches a register of the word, it starts with the word: the plan doesn't touch the register before
  with-word : (x : ℕ) → Touches q.at x → (0x0c ≤ x) × (x ≤ 0x0f) → q.at.subaddress ≡ 0x0c
  with-word x u w = ⊎_elim (λ e. e) (λ l. absurd (earlier l)) (eq-or-lt_of_le c.0)
    where
      c : Touches q.at 0x0c
      c = rules.whole x u w 0x0c (omega arith)

      earlier : q.at.subaddress < 0x0c → ⊥
      earlier l =
          ⊎_elim (λ e. false≢true (sym before-word ∙ e)) (λ e. false≢true e)
          (plan_bridges a χ 0x0b (q.sends 0x0b (omega arith, omega (arith, c.1))))

  -- so it touches none: the word is needed then, and past it come 10 and the caption registers
  no_word : (x : ℕ) → Touches q.at x → (x < 0x0c) ⊎ (0x0f < x)
  unfolding task_for
  no_word x u = ⊎_elim (λ w. absurd (refuted w)) (λ o. o) (among? 0x0c 0x0f x)
    where
      refuted : (0x0c ≤ x) × (x ≤ 0x0f) → ⊥
      refuted w =
          let s = with-word x u w in
          let l = starts in
          let e = ends in
          let word : word_in (must a) ≡ true = sym (need-word (must a) 0x0c (omega arith) (omega arith)) ∙ rw s at q.is.first in
          ⊎_elim {C = ⊥} (λ b. false≢true (sym n ∙ need-word (must a) r b.0 b.1 ∙ word))
          (λ o. ⊎_elim {C = ⊥} (λ b. omega arith) (λ b. rules.captions 0x11 (omega arith) (omega arith)) o) (among? 0x0c 0x0f r)

  -- so its needed registers are so by themselves
  must-here : (x : ℕ) → Touches q.at x → needed a x ≡ true → must a x ≡ true
  must-here x u e = sym (need_other (must a) x (no_word x u)) ∙ e

  first-must : must a q.at.subaddress ≡ true
  unfolding task_for
  first-must = must-here q.at.subaddress (omega (arith, q.has)) q.is.first

  last_must : must a (end q.at - 1) ≡ true
  unfolding task_for
  last_must = let l = q.has in must-here (end q.at - 1) (omega arith) q.is.last

  -- the register is a bridge between the needed ones next to it
  pub is-bridge : holds a (plan_of a) r (bridge (next_below (must a) r) (next_above (must a) r)) ≡ true
  is-bridge =
      let s = starts in
      let e = ends in
      let inside = (rules.inside (end q.at - 1) (omega arith)).0 in
      let b = below-found (must a) r q.at.subaddress s first-must in
      let f = from_found (must a) (register_count - suc r) (suc r) (end q.at - 1) e (omega arith) last_must in
      bridge_of a (plan_of a) r (next_below (must a) r) (next_above (must a) r) (sym (need_other (must a) r (no_word r q.has)) ∙ n) b.0 f.0
      (omega (arith, f)) (q.joins (next_below (must a) r) (next_above (must a) r) (omega (arith, b, f)) (omega (arith, b, f)))
