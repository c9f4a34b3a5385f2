-- The test of the three rules holds exactly where the rules do, for every transaction and every list of them. Assumes nothing.
use mathlib.Core.Path.{◌≡◌, refl, subst⁻¹}
use mathlib.Core.Logic.{◌⊎◌, inl, inr, ⊎_elim, ◌↔◌}
use mathlib.Core.Bool.{Bool, true, false, ◌&&◌, ◌||◌}
use mathlib.Core.List.{List, [], ◌∷◌}
use Prim.Native.Nat.{ℕ, ◌-◌, ◌≤◌, ◌<◌}
use native.Mathlib.Omega.{arith}
use lib.Dec.{T, leb, ltb, eqb, leb→le, le→leb, ltb→lt, lt→ltb, eqb→eq}
use borrow.Author.Tests.{eqb-false}
use Rattle.bits.proofs.FlagLaws.{both, first, second, either, left, right}
use Rattle.bus.specs.Registers.{apart}
use Rattle.bus.specs.Transactions.{Transaction, size, end}
use Rattle.bus.proofs.RegisterLaws.{apart_of, apart?}
use Rattle.adv7194_bus.specs.Kind.{register_count}
use Rattle.adv7194_bus.specs.Rules.{Rules, ruled, keeps_rules, all_keep_rules}
use Rattle.bits.specs.Lists.{Every}

-- ---- one transaction

module _ (t : Transaction) where
  abbrev s : ℕ
  s = t.subaddress

  -- the test's parts
  abbrev all : Bool
  all = leb (end t) register_count

  abbrev read_only : Bool
  read_only = apart s (end t) 0x34 0x34

  abbrev caption : Bool
  caption = apart s (end t) 0x11 0x14

  abbrev word : Bool
  word = apart s (end t) 0x0c 0x0f || (leb s 0x0c && ltb 0x0f (end t))

  -- the word's registers are all touched, or none is
  word_of : T word → ((end t ≤ 0x0c) ⊎ (0x0f < s)) ⊎ ((s ≤ 0x0c) × (0x0f < end t))
  word_of h = go (either (apart s (end t) 0x0c 0x0f) (leb s 0x0c && ltb 0x0f (end t)) h)
    where
      go : T (apart s (end t) 0x0c 0x0f) ⊎ T (leb s 0x0c && ltb 0x0f (end t)) → ((end t ≤ 0x0c) ⊎ (0x0f < s)) ⊎ ((s ≤ 0x0c) × (0x0f < end t))
      go (inl p) = inl (apart_of s (end t) 0x0c 0x0f p)
      go (inr p) =
          inr (leb→le s 0x0c (first (leb s 0x0c) (ltb 0x0f (end t)) p), ltb→lt 0x0f (end t) (second (leb s 0x0c) (ltb 0x0f (end t)) p))

  -- data that pass the test keep the rules
  rules_of : T (ruled s (end t)) → Rules t
  rules_of h =
      let h₁ = second all (read_only && (caption && word)) h in
      let h₂ = second read_only (caption && word) h₁ in
      let inside : end t ≤ register_count = leb→le (end t) register_count (first all (read_only && (caption && word)) h) in
      let keeps = apart_of s (end t) 0x34 0x34 (first read_only (caption && word) h₁) in
      let quiet = apart_of s (end t) 0x11 0x14 (first caption word h₂) in
      record {
        inside = λ r m. (omega (arith, m.1), λ e. ⊎_elim (λ a. omega (arith, m.1)) (λ a. omega (arith, m.0)) keeps);
        whole = λ r m w q v. ⊎_elim
            (λ b. absurd (⊎_elim (λ a. omega (arith, m.1, w.0)) (λ a. omega (arith, m.0, w.1)) b))
            (λ b. (omega (arith, b.0, v.0), omega (arith, b.1, v.1))) (word_of (second caption word h₂));
        captions = λ r m c. ⊎_elim (λ a. omega (arith, m.1, c.0)) (λ a. omega (arith, m.0, c.1)) quiet;
      }

  -- data that keep the rules pass the test
  of_rules : s < end t → Rules t → T (ruled s (end t))
  of_rules some k =
      both all (read_only && (caption && word)) (le→leb (end t) register_count (omega (arith, (k.inside (end t - 1) (omega arith, omega arith)).0)))
      (both read_only (caption && word)
      (⊎_elim (λ p. p) (λ m. absurd ((k.inside m.at (m.from, m.before)).1 (omega (arith, m.low, m.high))))
      (apart? s (end t) 0x34 0x34 some (omega arith)))
      (both caption word
      (⊎_elim (λ p. p) (λ m. absurd (k.captions m.at (m.from, m.before) (m.low, m.high))) (apart? s (end t) 0x11 0x14 some (omega arith)))
      (⊎_elim (λ p. left (apart s (end t) 0x0c 0x0f) (leb s 0x0c && ltb 0x0f (end t)) p)
      (λ m. right (apart s (end t) 0x0c 0x0f) (leb s 0x0c && ltb 0x0f (end t))
      (both (leb s 0x0c) (ltb 0x0f (end t))
      (le→leb s 0x0c (k.whole m.at (m.from, m.before) (m.low, m.high) 0x0c (omega arith, omega arith)).0)
      (lt→ltb 0x0f (end t) (k.whole m.at (m.from, m.before) (m.low, m.high) 0x0f (omega arith, omega arith)).1)))
      (apart? s (end t) 0x0c 0x0f some (omega arith)))))

  -- the test on subaddress and data count holds exactly where the rules do
  pub agree : T (keeps_rules s (size t)) ↔ Rules t
  unfolding keeps_rules
  agree = (λ h. ⊎_elim none rules_of (either (eqb (size t) 0) (ruled s (end t)) h), back (eqb (size t) 0) refl)
    where
      none : T (eqb (size t) 0) → Rules t
      none h =
          let z = eqb→eq (size t) 0 h in
          record {
            inside = λ r m. absurd (omega (arith, m.0, m.1));
            whole = λ r m w q v. absurd (omega (arith, m.0, m.1));
            captions = λ r m c. omega (arith, m.0, m.1);
          }

      back : (b : Bool) → eqb (size t) 0 ≡ b → Rules t → T (keeps_rules s (size t))
      back true e k = left (eqb (size t) 0) (ruled s (end t)) (subst⁻¹ T e tt)
      back false e k =
          let z = eqb-false (size t) 0 e in
          right (eqb (size t) 0) (ruled s (end t)) (of_rules (omega arith) k)

-- ---- a list

-- every transaction of a list keeps the rules exactly where the list's test holds
pub agree_all : (ts : List Transaction) → T (all_keep_rules ts) ↔ Every Rules ts
unfolding all_keep_rules
agree_all [] = (λ h. tt, λ h. tt)
agree_all (t ∷ ts) =
    let a = keeps_rules t.subaddress (size t) in
    let b = all_keep_rules ts in (
      λ h. ((agree t).0 (first a b h), (agree_all ts).0 (second a b h)),
      λ h. both a b ((agree t).1 h.0) ((agree_all ts).1 h.1),
    )
