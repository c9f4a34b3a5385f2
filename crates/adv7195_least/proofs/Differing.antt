-- What is left to write beside the transaction that ends with 3E, and that it may be written, as may be the registers in which the starting and the wanted
-- image differ. Assumes nothing.
use mathlib.Core.Path.{◌≡◌, refl, sym, ◌∙◌}
use mathlib.Core.Logic.{◌⊎◌, inl, inr, ⊎_elim}
use mathlib.Core.Bool.{Bool, true, false, not, ◌&&◌, ◌||◌, or-true, false≢true}
use mathlib.Core.List.{List}
use Prim.Native.Nat.{ℕ, ◌<◌}
use native.Mathlib.Omega.{arith}
use lib.Dec.{ltb, eqb}
use lib.ListN.{get_or-eq_default}
use borrow.Author.Tests.{ltb-true, ltb-false, eqb-true, not-true}
use Rattle.bits.proofs.FlagLaws.{both_true}
use Rattle.bus.specs.Registers.{differs, among}
use Rattle.bus.proofs.RegisterLaws.{among_in, among_out, among?, not_both}
use Rattle.adv7195_bus.specs.Kind.{register_count, unnamed}
use Rattle.adv7195_bus.specs.Rules.{writable}
use Rattle.adv7195_bus.proofs.RuleLaws.{writable_from}
use Rattle.adv7195_least.specs.Reaching.{Change}
use Rattle.adv7195_least.specs.Plan.{restores, beside}
use Rattle.adv7195_least.proofs.TaskLaws.{Fitting}

-- one of two tests
or_cases : (a b : Bool) → (a || b) ≡ true → (a ≡ true) ⊎ (b ≡ true)
or_cases true b e = inl refl
or_cases false b e = inr e

module _ (image wanted : List ℕ) where
  -- a register is left to write beside a to 09: it differs and is none of those, or it is 03, or it is 09 and has to be written once more
  abbrev pub Left : ℕ → ℕ → Type 0
  Left a r = ((differs image wanted r ≡ true) × ((r < a) ⊎ (0x09 < r))) ⊎ ((r ≡ 0x03) ⊎ ((r ≡ 0x09) × (restores wanted ≡ true)))

  -- the test says so
  pub beside_left : (a r : ℕ) → beside image wanted a r ≡ true → Left a r
  unfolding beside
  beside_left a r e = ⊎_elim (λ f. inl (other f)) (λ f. inr (own f)) (or_cases (differs image wanted r && not (among a 0x09 r)) _ e)
    where
      other : (differs image wanted r && not (among a 0x09 r)) ≡ true → (differs image wanted r ≡ true) × ((r < a) ⊎ (0x09 < r))
      other f =
          let q = both_true (differs image wanted r) (not (among a 0x09 r)) f in (
            q.0,
            ⊎_elim (λ u. absurd (false≢true (sym (not-true (among a 0x09 r) q.1) ∙ among_in a 0x09 r u.0 u.1))) (λ u. u) (among? a 0x09 r),
          )

      own : (eqb r 0x03 || (eqb r 0x09 && restores wanted)) ≡ true → (r ≡ 0x03) ⊎ ((r ≡ 0x09) × (restores wanted ≡ true))
      own f =
          ⊎_elim (λ g. inl (eqb-true r 0x03 g)) (λ g. let q = both_true (eqb r 0x09) (restores wanted) g in inr (eqb-true r 0x09 q.0, q.1))
          (or_cases (eqb r 0x03) (eqb r 0x09 && restores wanted) f)

  -- and back, for each of the three
  pub beside_other : (a r : ℕ) → differs image wanted r ≡ true → (r < a) ⊎ (0x09 < r) → beside image wanted a r ≡ true
  unfolding beside
  beside_other a r d h = rw (d, among_out a 0x09 r h)

  pub beside_03 : (a : ℕ) → beside image wanted a 0x03 ≡ true
  unfolding beside
  beside_03 a = or-true (differs image wanted 0x03 && not (among a 0x09 0x03))

  pub beside_09 : (a : ℕ) → restores wanted ≡ true → beside image wanted a 0x09 ≡ true
  unfolding beside
  beside_09 a e = rw e (or-true (differs image wanted 0x09 && not (among a 0x09 0x09)))

  module _ (χ : Change image wanted) where
    -- a register that differs may be written
    pub differs-writable : Fitting (differs image wanted)
    differs-writable r d = writable_from r (low (ltb r register_count) refl) (named (unnamed r) refl)
      where
        low : (b : Bool) → ltb r register_count ≡ b → r < register_count
        low true e = ltb-true r register_count e
        low false e =
            let g = ltb-false r register_count e in
            let a = χ.found in
            let b = χ.wants in
            absurd (not_both image wanted r d (get_or-eq_default image 0 (omega arith) ∙ sym (get_or-eq_default wanted 0 (omega arith))))

        named : (b : Bool) → unnamed r ≡ b → unnamed r ≡ false
        named true e = absurd (not_both image wanted r d (sym (χ.kept r e)))
        named false e = e

    -- and so may what is left beside a to 09
    pub beside-writable : (a : ℕ) → Fitting (beside image wanted a)
    beside-writable a r e = split (beside_left a r e)
      where
        split : Left a r → writable r ≡ true
        split (inl q) = differs-writable r q.0
        split (inr (inl q)) = rw q
        split (inr (inr q)) = rw q.0
