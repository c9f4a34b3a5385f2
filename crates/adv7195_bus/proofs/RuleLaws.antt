-- The test of the rule holds exactly where the rule does, for every transaction and every list of them; the registers that a byte may be written to.
-- Assumes nothing.
use mathlib.Core.Path.{◌≡◌, refl, subst⁻¹, ap}
use mathlib.Core.Logic.{inl, inr, ⊎_elim, ◌↔◌}
use mathlib.Core.Bool.{Bool, true, false, not, ◌&&◌}
use mathlib.Core.List.{List, [], ◌∷◌}
use Prim.Native.Nat.{ℕ, ◌-◌, ◌<◌}
use native.Mathlib.Omega.{arith}
use lib.Dec.{T, leb, ltb, eqb, leb→le, le→leb, eqb→eq}
use borrow.Author.Tests.{ltb-true, lt-ltb, le-ltb, eqb-false, not-true}
use Rattle.bits.specs.Maps.{has}
use Rattle.bits.proofs.FlagLaws.{both, first, second, either, left, right, both_true}
use Rattle.bits.proofs.Checks.{agrees, below, map_is}
use Rattle.bus.specs.Registers.{apart}
use Rattle.bus.specs.Transactions.{Transaction, size, end, Touches}
use Rattle.bus.proofs.Play.{Kept}
use Rattle.bus.proofs.RegisterLaws.{among_in, among_out, apart_of, apart?}
use Rattle.adv7195_bus.specs.Kind.{register_count, unnamed, adv7195}
use Rattle.adv7195_bus.specs.Rules.{Rules, writable, keeps_rules, all_keep_rules}
use Rattle.bits.specs.Lists.{Every}

-- ---- one transaction

module _ (t : Transaction) where
  abbrev s : ℕ
  s = t.subaddress

  -- the test's parts
  abbrev all : Bool
  all = leb (end t) register_count

  abbrev named : Bool
  named = apart s (end t) 0x0a 0x0f

  -- data that pass the test keep the rule
  rules_of : T (all && named) → Rules t
  rules_of h =
      let ends = leb→le (end t) register_count (first all named h) in
      let beside = apart_of s (end t) 0x0a 0x0f (second all named h) in
      record {
        inside = λ r m. (
          omega (arith, m.1),
          among_out 0x0a 0x0f r (⊎_elim (λ a. inl (omega (arith, m.1))) (λ a. inr (omega (arith, m.0))) beside),
        );
      }

  -- data that keep the rule pass the test
  of_rules : s < end t → Rules t → T (all && named)
  of_rules some k =
      both all named (le→leb (end t) register_count (omega (arith, (k.inside (end t - 1) (omega arith, omega arith)).0)))
      (⊎_elim (λ p. p) (λ m. absurd (clash m.at (among_in 0x0a 0x0f m.at m.low m.high) (k.inside m.at (m.from, m.before)).1))
      (apart? s (end t) 0x0a 0x0f some (omega arith)))
    where
      clash : (r : ℕ) → unnamed r ≡ true → unnamed r ≡ false → ⊥
      clash r e f = let z : ◌≡◌ {A = ℕ} 0 1 = cc in omega arith

  -- the test on subaddress and data count holds exactly where the rule does
  pub agree : T (keeps_rules s (size t)) ↔ Rules t
  unfolding keeps_rules
  agree = (λ h. ⊎_elim none rules_of (either (eqb (size t) 0) (all && named) h), back (eqb (size t) 0) refl)
    where
      none : T (eqb (size t) 0) → Rules t
      none h = let z = eqb→eq (size t) 0 h in record { inside = λ r m. absurd (omega (arith, m.0, m.1)) }

      back : (b : Bool) → eqb (size t) 0 ≡ b → Rules t → T (keeps_rules s (size t))
      back true e k = left (eqb (size t) 0) (all && named) (subst⁻¹ T e tt)
      back false e k = let z = eqb-false (size t) 0 e in right (eqb (size t) 0) (all && named) (of_rules (omega arith) k)

-- ---- a list

-- every transaction of a list keeps the rule exactly where the list's test holds
pub agree_all : (ts : List Transaction) → T (all_keep_rules ts) ↔ Every Rules ts
unfolding all_keep_rules
agree_all [] = (λ h. tt, λ h. tt)
agree_all (t ∷ ts) =
    let a = keeps_rules t.subaddress (size t) in
    let b = all_keep_rules ts in (
      λ h. ((agree t).0 (first a b h), (agree_all ts).0 (second a b h)),
      λ h. both a b ((agree t).1 h.0) ((agree_all ts).1 h.1),
    )

-- ---- the registers that a byte may be written to

-- the chip has such a register, and 001 names it
pub writable_facts : (r : ℕ) → writable r ≡ true → (r < register_count) × (unnamed r ≡ false)
writable_facts r e =
    let q = both_true (ltb r register_count) (not (unnamed r)) e in
    (ltb-true r register_count q.0, not-true (unnamed r) q.1)

-- and back
pub writable_from : (r : ℕ) → r < register_count → unnamed r ≡ false → writable r ≡ true
writable_from r h e = rw (lt-ltb r register_count h, e)

-- a transaction that touches only such registers keeps the rule, and the other way round
pub rules-writable : (t : Transaction) → Rules t ↔ ((r : ℕ) → Touches t r → writable r ≡ true)
rules-writable t =
    (λ k r m. let q = k.inside r m in writable_from r q.0 q.1, λ h. record { inside = λ r m. writable_facts r (h r m) })

-- the chip keeps what a transaction that keeps the rule writes
pub rules-kept : (own : ℕ) (t : Transaction) → Rules t → Kept (adv7195 own) t
rules-kept own t k r m = ((k.inside r m).0, ap not (k.inside r m).1)

-- the map as the code has it
abbrev pub writable_map : ℕ
writable_map = 0xffffff03ff

-- it has exactly those registers
pub in_writable_map : (r : ℕ) → has writable_map r ≡ writable r
unfolding below agrees
in_writable_map r = map_is writable_map writable (omega arith) tt (λ i h. rw (le-ltb i register_count (omega arith))) r
