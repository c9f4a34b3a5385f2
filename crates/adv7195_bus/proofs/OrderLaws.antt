-- The order before a flip of MR36, a transaction at a time: as a property and as a test, which agree. Assumes nothing.
use mathlib.Core.Path.{◌≡◌, refl, sym, ap, ◌∙◌, subst}
use mathlib.Core.Logic.{◌⊎◌, inl, inr, ⊎_elim, ◌↔◌}
use mathlib.Core.Bool.{Bool, true, false, not, xor, ◌||◌, and-false, false≢true}
use mathlib.Core.List.{List, [], ◌∷◌, ◌++◌, flat_map}
use Prim.Native.Nat.{ℕ, ◌≤◌, ◌<◌}
use native.Mathlib.Omega.{arith}
use lib.Dec.{leb}
use lib.ListN.{length, get_or}
use borrow.Author.Tests.{lt-ltb, le-ltb, le-leb, lt-leb, eqb-true, eq-eqb}
use Rattle.bits.specs.Maps.{has}
use Rattle.bits.proofs.FlagLaws.{both_true}
use Rattle.bus.specs.Transactions.{Transaction, end, Touches, Touched, touches}
use Rattle.bus.specs.Chip.{Kind, Chip}
use Rattle.bus.specs.Run.{run, list_events, after}
use Rattle.bus.proofs.Play.{touches?, run-list}
use Rattle.bus.proofs.After.{next, length-next, touched-next, other_next}
use Rattle.adv7195_bus.specs.Kind.{register_count, adv7195}
use Rattle.adv7195_bus.specs.Rules.{Rules}
use Rattle.adv7195_bus.specs.Order.{mode_register3, mode_register6, preparing_byte, interpolation_bit, interpolation, flipped, byte_for}
use Rattle.adv7195_bus.specs.Order.{Prepared, Ordered, byte_after, prepared_by, order_from, keeps_order}
use Rattle.adv7195_bus.proofs.RuleLaws.{rules-kept}
use Rattle.bits.specs.Lists.{Every}

-- ---- the test of a touched register

pub touches_in : (t : Transaction) (r : ℕ) → Touches t r → touches t r ≡ true
touches_in t r u = rw (le-leb t.subaddress r u.0, lt-ltb r (end t) u.1)

-- it fails where the register lies outside
touches_out : (t : Transaction) (r : ℕ) → (r < t.subaddress) ⊎ (end t ≤ r) → touches t r ≡ false
touches_out t r (inl u) = rw (lt-leb t.subaddress r u)
touches_out t r (inr u) = rw (le-ltb r (end t) u) (and-false (leb t.subaddress r))

-- either it is touched, or the test fails
pub touched? : (t : Transaction) (r : ℕ) → Touches t r ⊎ (touches t r ≡ false)
touched? t r = ⊎_elim inl (λ u. inr (touches_out t r u)) (touches? t r)

-- ---- a transaction at a time

-- each transaction that flips MR36 in the chip as it finds it comes where p holds: that 3E was the last byte for 09 so far
abbrev pub OrderedFrom : Kind → Bool → Chip → List Transaction → Type 0
OrderedFrom κ p c [] = Unit {0}
OrderedFrom κ p c (t ∷ ts) =
    (flipped c.registers (next κ c t).registers ≡ true → p ≡ true) × OrderedFrom κ (prepared_by p t) (next κ c t) ts

-- 3E was written with 09 untouched since, in the list or, where p holds, before it
abbrev PreparedFrom : Bool → List Transaction → Type 0
PreparedFrom p ts = Prepared ts ⊎ ((p ≡ true) × (Touched ts mode_register6 → ⊥))

-- one transaction more in front
prepared_more : (p : Bool) (t : Transaction) (ts : List Transaction) → PreparedFrom (prepared_by p t) ts → PreparedFrom p (t ∷ ts)
prepared_more p t ts (inl w) = inl (inr w)
prepared_more p t ts (inr (e, n)) = split (touched? t mode_register6)
  where
    split : Touches t mode_register6 ⊎ (touches t mode_register6 ≡ false) → PreparedFrom p (t ∷ ts)
    split (inl u) = inl (inl ((u, eqb-true (byte_for t mode_register6) preparing_byte (rw (touches_in t mode_register6 u) at e)), n))
    split (inr u) = inr (rw u at e, λ v. ⊎_elim {C = ⊥} (λ w. false≢true (sym u ∙ touches_in t mode_register6 w)) n v)

-- and one fewer
prepared_less : (p : Bool) (t : Transaction) (ts : List Transaction) → PreparedFrom p (t ∷ ts) → PreparedFrom (prepared_by p t) ts
prepared_less p t ts (inl (inl ((u, e), n))) = inr (rw (touches_in t mode_register6 u) (eq-eqb (byte_for t mode_register6) preparing_byte e), n)
prepared_less p t ts (inl (inr w)) = inl w
prepared_less p t ts (inr (e, n)) = split (touched? t mode_register6)
  where
    split : Touches t mode_register6 ⊎ (touches t mode_register6 ≡ false) → PreparedFrom (prepared_by p t) ts
    split (inl u) = absurd (n (inl u))
    split (inr u) = inr (rw u e, λ v. n (inr v))

module _ (κ : Kind) where
  -- the transaction after some others flips MR36
  abbrev FlipsAfter : Chip → List Transaction → Transaction → Type 0
  FlipsAfter c before t = flipped (after κ c before).registers (next κ (after κ c before) t).registers ≡ true

  -- one by one, so for every transaction
  each : (before : List Transaction) (t : Transaction) (rest : List Transaction) (p : Bool) (c : Chip) → OrderedFrom κ p c (before ++ t ∷ rest)
      → FlipsAfter c before t → PreparedFrom p before
  unfolding run list_events flat_map
  each [] t rest p c o f = inr (o.0 f, λ v. v)
  each (u ∷ before) t rest p c o f =
      prepared_more p u before (each before t rest (prepared_by p u) (next κ c u) o.1
      (subst (λ d. flipped d.registers (next κ d t).registers ≡ true) (run-list κ κ.address c u before) f))

  -- and back
  one_by_one : (ts : List Transaction) (p : Bool) (c : Chip)
      → ((before : List Transaction) (t : Transaction) (rest : List Transaction) → ts ≡ before ++ t ∷ rest → FlipsAfter c before t → PreparedFrom p before)
      → OrderedFrom κ p c ts
  unfolding run list_events flat_map
  one_by_one [] p c h = tt
  one_by_one (u ∷ ts) p c h = (
    λ f. ⊎_elim (λ w. absurd w) (λ w. w.0) (h [] u ts refl f),
    one_by_one ts (prepared_by p u) (next κ c u) (λ before t rest e f. prepared_less p u before (h (u ∷ before) t rest (ap (λ l. u ∷ l) e)
        (subst (λ d. flipped d.registers (next κ d t).registers ≡ true) (sym (run-list κ κ.address c u before)) f))),
  )

  -- the order, a transaction at a time
  pub ordered_from : (ts : List Transaction) (c : Chip) → Ordered κ c ts → OrderedFrom κ false c ts
  ordered_from ts c o = one_by_one ts false c (λ before t rest e f. inl (o before t rest e f))

  pub from_ordered : (ts : List Transaction) (c : Chip) → OrderedFrom κ false c ts → Ordered κ c ts
  from_ordered ts c o before t rest e f =
      ⊎_elim (λ w. w) (λ w. absurd (false≢true w.0)) (each before t rest false c (subst (OrderedFrom κ false c) e o) f)

-- ---- the test

-- not the one, or the other
implies_true : (a b : Bool) → (not a || b) ≡ true → a ≡ true → b ≡ true
implies_true true b e f = e
implies_true false b e f = absurd (false≢true f)

true_implies : (a b : Bool) → (a ≡ true → b ≡ true) → (not a || b) ≡ true
true_implies true b f = f refl
true_implies false b f = refl

module _ (own : ℕ) where
  abbrev κ : Kind
  κ = adv7195 own

  -- the byte in a register after a transaction that keeps the rule
  pub byte-after : (r : ℕ) (c : Chip) (t : Transaction) → r < register_count → Rules t → length c.registers ≡ register_count
      → get_or (next κ c t).registers r 0 ≡ byte_after r (get_or c.registers r 0) t
  byte-after r c t h k n = split (touches? t r)
    where
      split : Touches t r ⊎ ((r < t.subaddress) ⊎ (end t ≤ r)) → get_or (next κ c t).registers r 0 ≡ byte_after r (get_or c.registers r 0) t
      split (inl u) = rw (touches_in t r u) (touched-next κ c t r (rules-kept own t k) (omega arith) u)
      split (inr u) = rw (touches_out t r u) (other_next κ c t r u)

  -- the test agrees with the order, a transaction at a time
  test_from : (ts : List Transaction) (p : Bool) (c : Chip) → Every Rules ts → length c.registers ≡ register_count
      → (order_from p (get_or c.registers mode_register3 0) ts ≡ true) ↔ OrderedFrom κ p c ts
  unfolding order_from interpolation
  test_from [] p c all n = (λ e. tt, λ o. refl)
  test_from (t ∷ ts) p c all n =
      let b = byte-after mode_register3 c t (omega arith) all.0 n in
      let ih = test_from ts (prepared_by p t) (next κ c t) all.1 (length-next κ c t ∙ n) in
      let m = get_or c.registers mode_register3 0 in
      let m' = byte_after mode_register3 m t in
      let flip = xor (has m interpolation_bit) (has m' interpolation_bit) in (
        λ e. let q = both_true (not flip || p) (order_from (prepared_by p t) m' ts) e in
            (λ f. implies_true flip p q.0 (rw b at f), ih.0 (rw b q.1)),
        λ o. rw (true_implies flip p (λ f. o.0 (rw b f)), rw b at (ih.1 o.1)),
      )

  -- so it holds exactly where the order does
  pub order-agrees : (ts : List Transaction) (c : Chip) → Every Rules ts → length c.registers ≡ register_count
      → (keeps_order c.registers ts ≡ true) ↔ Ordered κ c ts
  order-agrees ts c all n =
      let q = test_from ts false c all n in
      (λ e. from_ordered κ ts c (q.0 e), λ o. q.1 (ordered_from κ ts c o))
