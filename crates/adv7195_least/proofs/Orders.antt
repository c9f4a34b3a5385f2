-- What a list that keeps the order and flips MR36 has: a transaction that touches 09, and beside it others that touch 03, and 09 once more where that doesn't
-- end with 3E. And when an ascending list keeps the order. Assumes nothing.
use mathlib.Core.Path.{◌≡◌, refl, sym, ap, ◌∙◌}
use mathlib.Core.Logic.{◌⊎◌, inl, inr, ⊎_elim, ◌≢◌}
use mathlib.Core.Bool.{Bool, true, false, xor, false≢true}
use mathlib.Core.List.{List, [], ◌∷◌, flat_map}
use Prim.Native.Nat.{ℕ, ◌≤◌, ◌<◌}
use native.Mathlib.Omega.{arith}
use lib.ListN.{length, get_or}
use borrow.Author.Tests.{ne_eqb}
use Rattle.bits.specs.Maps.{has}
use Rattle.bus.specs.Transactions.{Transaction, end, Touches, Touched, touches}
use Rattle.bus.specs.Chip.{Kind, Chip}
use Rattle.bus.specs.Run.{run, list_events, after}
use Rattle.bus.proofs.Play.{Kept, touches?, run-list, touched_or_same}
use Rattle.bus.proofs.After.{next, length-next, touched-next, other_next}
use Rattle.least_cost.specs.Order.{Ascending, Holds}
use Rattle.least_cost.proofs.Pulled.{Pulled, pull_first, pull_later}
use Rattle.adv7195_bus.specs.Kind.{register_count, adv7195}
use Rattle.adv7195_bus.specs.Rules.{Rules}
use Rattle.adv7195_bus.specs.Order.{interpolation_bit, interpolation, flipped, byte_for, prepared_by}
use Rattle.adv7195_bus.proofs.RuleLaws.{rules-kept}
use Rattle.adv7195_bus.proofs.OrderLaws.{OrderedFrom, touches_in, touched?}
use Rattle.bits.specs.Lists.{Every}

-- two bits that don't differ are one
pub xor_false : (a b : Bool) → xor a b ≡ false → a ≡ b
unfolding xor
xor_false true true e = refl
xor_false true false e = e
xor_false false true e = sym e
xor_false false false e = refl

-- a bit doesn't differ from itself
pub xor_self : (a : Bool) → xor a a ≡ false
unfolding xor
xor_self true = refl
xor_self false = refl

-- one byte in 03 is one MR36
same_bit : (l m : List ℕ) → get_or l 0x03 0 ≡ get_or m 0x03 0 → interpolation l ≡ interpolation m
unfolding interpolation
same_bit l m e = ap (λ b. has b interpolation_bit) e

module _ (own : ℕ) where
  -- the chip
  abbrev κ : Kind
  κ = adv7195 own

  -- a transaction that doesn't touch 03 leaves MR36
  leaves-bit : (c : Chip) (t : Transaction) → touches t 0x03 ≡ false → interpolation c.registers ≡ interpolation (next κ c t).registers
  leaves-bit c t e =
      sym (same_bit (next κ c t).registers c.registers (other_next κ c t 0x03
      (⊎_elim (λ u. absurd (false≢true (sym e ∙ touches_in t 0x03 u))) (λ u. u) (touches? t 0x03))))

  -- so it flips nothing
  pub no_flip : (c : Chip) (t : Transaction) → touches t 0x03 ≡ false → flipped c.registers (next κ c t).registers ≡ false
  no_flip c t u = rw (leaves-bit c t u) (xor_self (interpolation (next κ c t).registers))

  -- and so does one that would need a 3E that isn't there
  unflipped : (c : Chip) (t : Transaction) → (flipped c.registers (next κ c t).registers ≡ true → false ≡ true)
      → interpolation c.registers ≡ interpolation (next κ c t).registers
  unflipped c t h = split (flipped c.registers (next κ c t).registers) refl
    where
      split : (b : Bool) → flipped c.registers (next κ c t).registers ≡ b → interpolation c.registers ≡ interpolation (next κ c t).registers
      split true e = absurd (false≢true (h e))
      split false e = xor_false (interpolation c.registers) (interpolation (next κ c t).registers) e

  -- a list that keeps the order from a chip on, with no 3E written so far, and ends in registers with another MR36
  pub record Going (c : Chip) (ts : List Transaction) (w : List ℕ) : Type 0 where
    pub rules : Every Rules ts
    pub ordered : OrderedFrom κ false c ts
    pub ends : (after κ c ts).registers ≡ w
    pub flips : interpolation c.registers ≢ interpolation w
    pub size : length c.registers ≡ register_count

  -- after a first transaction that leaves no 3E it goes on
  pub goes_on : (c : Chip) (t : Transaction) (ts : List Transaction) (w : List ℕ) → Going c (t ∷ ts) w → prepared_by false t ≡ false → Going (next κ c t) ts w
  goes_on c t ts w g e = record {
    rules = g.rules.1;
    ordered = rw e at g.ordered.1;
    ends = sym (ap (λ d. d.registers) (run-list κ own c t ts)) ∙ g.ends;
    flips = λ q. g.flips (unflipped c t g.ordered.0 ∙ q);
    size = length-next κ c t ∙ g.size;
  }

  -- one that doesn't touch 09 leaves none
  pub not_prepared : (t : Transaction) → touches t 0x09 ≡ false → prepared_by false t ≡ false
  not_prepared t e = rw e

  -- it touches 09
  pub goes_9 : (ts : List Transaction) (c : Chip) (w : List ℕ) → Going c ts w → Touched ts 0x09
  unfolding run list_events flat_map
  goes_9 [] c w g = absurd (g.flips (ap interpolation g.ends))
  goes_9 (t ∷ ts) c w g = split (touched? t 0x09) (λ h. goes_9 ts (next κ c t) w h)
    where
      split : Touches t 0x09 ⊎ (touches t 0x09 ≡ false) → (Going (next κ c t) ts w → Touched ts 0x09) → Touched (t ∷ ts) 0x09
      split (inl u) f = inl u
      split (inr e) f = inr (f (goes_on c t ts w g (not_prepared t e)))

  -- where the first transaction touches 09, a later one touches 03, and one touches 09 once more unless that ends with 3E
  pub goes_first : (c : Chip) (t : Transaction) (ts : List Transaction) (w : List ℕ) → Going c (t ∷ ts) w → Touches t 0x09
      → Touched ts 0x03 × (get_or w 0x09 0 ≢ 0x3e → Touched ts 0x09)
  goes_first c t ts w g u = (
    ⊎_elim (λ v. v) (λ e. absurd (g.flips (unflipped c t g.ordered.0
        ∙ sym (same_bit w (next κ c t).registers (sym (at 0x03) ∙ e))))) (touched_or_same κ ts (next κ c t) 0x03),
    λ z. ⊎_elim (λ v. v) (λ e. goes_9 ts (next κ c t) w (goes_on c t ts w g (spent z e))) (touched_or_same κ ts (next κ c t) 0x09),
  )
    where
      at : (r : ℕ) → get_or (after κ (next κ c t) ts).registers r 0 ≡ get_or w r 0
      at r = ap (λ d. get_or d.registers r 0) (sym (run-list κ own c t ts)) ∙ ap (λ (l : List ℕ). get_or l r 0) g.ends

      spent : get_or w 0x09 0 ≢ 0x3e → get_or (after κ (next κ c t) ts).registers 0x09 0 ≡ get_or (next κ c t).registers 0x09 0 → prepared_by false t ≡ false
      spent z e =
          let n = g.size in
          rw (touches_in t 0x09 u) (ne_eqb (byte_for t 0x09) 0x3e
          (λ q. z (sym (at 0x09) ∙ e ∙ touched-next κ c t 0x09 (rules-kept own t g.rules.0) (omega arith) u ∙ q)))

  -- a list with one transaction that touches 09 set apart: others touch 03, and 09 where `back` says so
  pub record Apart (ts : List Transaction) (back : Type 0) : Type 0 where
    pub pull : Pulled Rules ts 0x09
    pub flips : Touched pull.others 0x03
    pub restored : back → Touched pull.others 0x09

  -- a list that goes on so is one
  pub apart : (ts : List Transaction) (c : Chip) (w : List ℕ) → Going c ts w → Apart ts (get_or w 0x09 0 ≢ 0x3e)
  unfolding run list_events flat_map pull_first pull_later
  apart [] c w g = absurd (g.flips (ap interpolation g.ends))
  apart (t ∷ ts) c w g = split (touched? t 0x09) (λ h. apart ts (next κ c t) w h)
    where
      split : Touches t 0x09 ⊎ (touches t 0x09 ≡ false) → (Going (next κ c t) ts w → Apart ts (get_or w 0x09 0 ≢ 0x3e)) → Apart (t ∷ ts) (get_or w 0x09 0 ≢ 0x3e)
      split (inl u) f =
          let q = goes_first c t ts w g u in
          record { pull = pull_first Rules 0x09 t ts g.rules u; flips = q.0; restored = q.1 }
      split (inr e) f =
          let q = f (goes_on c t ts w g (not_prepared t e)) in
          record { pull = pull_later Rules 0x09 t ts g.rules.0 q.pull; flips = inr q.flips; restored = λ z. inr (q.restored z) }

  -- ---- ascending lists

  -- an ascending list keeps the order where 3E was the last byte for 09 before it, or it starts past 03
  pub in_order : (ts : List Transaction) (b : Bool) (c : Chip) (i : ℕ) → Ascending i ts → (i ≤ 0x03 → b ≡ true) → OrderedFrom κ b c ts
  in_order [] b c i a h = tt
  in_order (t ∷ ts) b c i a h = (
    first (touched? t 0x03),
    in_order ts (prepared_by b t) (next κ c t) (end t) a.1 (λ g. rw (before g) (h (omega (arith, a.0)))),
  )
    where
      first : Touches t 0x03 ⊎ (touches t 0x03 ≡ false) → flipped c.registers (next κ c t).registers ≡ true → b ≡ true
      first (inl u) e = h (omega (arith, a.0))
      first (inr u) e = absurd (false≢true (sym (no_flip c t u) ∙ e))

      before : end t ≤ 0x03 → touches t 0x09 ≡ false
      before g = ⊎_elim (λ u. absurd (omega arith)) (λ u. u) (touched? t 0x09)

  -- a list keeps the order where MR36 is as wanted and all its bytes are
  pub in_order_steady : (wanted : List ℕ) (ts : List Transaction) (b : Bool) (c : Chip) → Every (Kept κ) ts → Every (Holds (λ r. get_or wanted r 0)) ts
      → length c.registers ≡ register_count → interpolation c.registers ≡ interpolation wanted → OrderedFrom κ b c ts
  in_order_steady wanted [] b c k h n e = tt
  in_order_steady wanted (t ∷ ts) b c k h n e = (
    λ f. absurd (false≢true (sym (rw (e, still) (xor_self (interpolation wanted))) ∙ f)),
    in_order_steady wanted ts (prepared_by b t) (next κ c t) k.1 h.1 (length-next κ c t ∙ n) still,
  )
    where
      still : interpolation (next κ c t).registers ≡ interpolation wanted
      still = ⊎_elim
          (λ u. same_bit (next κ c t).registers wanted (touched-next κ c t 0x03 k.0 (omega arith) u ∙ h.0 0x03 u))
          (λ u. sym (leaves-bit c t u) ∙ e)
          (touched? t 0x03)

  -- an ascending list that keeps the order leaves MR36 where 3E was not the last byte for 09 before it, or it starts past 09
  pub ascending-leaves : (ts : List Transaction) (b : Bool) (c : Chip) (i : ℕ) → Ascending i ts → (b ≡ false) ⊎ (0x09 < i) → OrderedFrom κ b c ts
      → interpolation c.registers ≡ interpolation (after κ c ts).registers
  unfolding run list_events flat_map
  ascending-leaves [] b c i a h o = refl
  ascending-leaves (t ∷ ts) b c i a h o =
      first h (touched? t 0x03) ∙ ascending-leaves ts (prepared_by b t) (next κ c t) (end t) a.1 (onward h (touched? t 0x09)) o.1
      ∙ ap (λ d. interpolation d.registers) (sym (run-list κ own c t ts))
    where
      first : (b ≡ false) ⊎ (0x09 < i) → Touches t 0x03 ⊎ (touches t 0x03 ≡ false) → interpolation c.registers ≡ interpolation (next κ c t).registers
      first (inl e) u = unflipped c t (λ f. sym e ∙ o.0 f)
      first (inr g) (inl u) = absurd (omega (arith, a.0))
      first (inr g) (inr u) = leaves-bit c t u

      onward : (b ≡ false) ⊎ (0x09 < i) → Touches t 0x09 ⊎ (touches t 0x09 ≡ false) → (prepared_by b t ≡ false) ⊎ (0x09 < end t)
      onward h (inl u) = inr u.1
      onward (inl e) (inr u) = inl (rw (u, e))
      onward (inr g) (inr u) = inr (omega (arith, a.0))
