-- Two images side by side, by their lengths; and which of them list nothing. Assumes nothing.
use mathlib.Core.Path.{◌≡◌, refl, sym, ap₂, ◌∙◌, subst}
use mathlib.Core.Bool.{Bool, true, false}
use mathlib.Core.List.{List}
use Prim.Native.Nat.{ℕ, ◌^◌, ◌<◌}
use native.Mathlib.Omega.{arith}
use lib.ListN.{length, get_or}
use borrow.Author.Tests.{eqb-true, eq-eqb}
use Rattle.refusals.specs.Verdict.{Verdict, good, refused_at}
use Rattle.adv7194_bus.specs.Kind.{register_count}
use Rattle.adv7194_compare.specs.Differences.{fields_differing, registers_differing, map_of}
use Rattle.adv7194_compare.specs.Compare.{Comparison, whole, compare_by, OnlyEqual}
use Rattle.adv7194_compare.proofs.DifferenceLaws.{fields_map, registers-map}
use Rattle.adv7194_compare.proofs.EqualLaws.{equal_fields, equal_registers, only_equal}

-- an image of the right length isn't a short one
not_short : (l : List ℕ) → length l ≡ register_count → whole l ≡ false → ⊥
not_short l e h =
    let t : whole l ≡ true = eq-eqb _ _ e in
    let z : ◌≡◌ {A = ℕ} 0 1 = cc in omega arith

module _ (both : Bool) (a b : List ℕ) where
  -- what stands where both lengths are right
  abbrev side_by_side : ℕ → ℕ → Verdict Comparison
  side_by_side fs rs = good (record { readable = both; fields = fs; registers = rs })

  pub first_short : whole a ≡ false → refused_at 1 0 ≡ compare_by both a b
  unfolding compare_by
  first_short h = rw h

  pub second_short : whole a ≡ true → whole b ≡ false → refused_at 1 0 ≡ compare_by both a b
  unfolding compare_by
  second_short h k = rw (h, k)

  pub both_whole : whole a ≡ true → whole b ≡ true → {fs rs : ℕ} → fs ≡ map_of (fields_differing a b) → rs ≡ map_of (registers_differing a b)
      → side_by_side fs rs ≡ compare_by both a b
  unfolding compare_by
  both_whole h k e f = rw (h, k) (ap₂ side_by_side e f)

  -- an empty list is that of equal images
  module _ (bytes : (r : ℕ) → (get_or a r 0 < 2 ^ 8) × (get_or b r 0 < 2 ^ 8)) where
    by_lengths : (s t : Bool) → whole a ≡ s → whole b ≡ t → OnlyEqual a b (compare_by both a b)
    by_lengths false t h k = subst (OnlyEqual a b) (first_short h) (record { empty = λ e. absurd (not_short a e.size.0 h); only = λ n. absurd n })
    by_lengths true false h k =
        subst (OnlyEqual a b) (second_short h k) (record { empty = λ e. absurd (not_short b e.size.1 k); only = λ n. absurd n })
    by_lengths true true h k =
        subst (OnlyEqual a b) (both_whole h k refl refl)
        (record {
          empty = λ e. (fields_map a b ∙ equal_fields a b e, registers-map a b ∙ equal_registers a b e);
          only =
              λ n.
              record {
                size = (eqb-true _ _ h, eqb-true _ _ k);
                same = only_equal a b bytes (sym (fields_map a b) ∙ n.0) (sym (registers-map a b) ∙ n.1);
              };
        })

    pub list-empty : {answer : Verdict Comparison} → answer ≡ compare_by both a b → OnlyEqual a b answer
    list-empty e = subst (OnlyEqual a b) (sym e) (by_lengths (whole a) (whole b) refl refl)
