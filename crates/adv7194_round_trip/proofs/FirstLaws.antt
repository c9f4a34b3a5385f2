-- What is accepted, and what that says of each row of a checking order. Assumes nothing.
use mathlib.Core.Path.{◌≡◌, refl, ap₂, ◌∙◌}
use mathlib.Core.Bool.{Bool, true, false, cond, ◌&&◌, ◌||◌}
use mathlib.Core.Logic.{◌⊎◌, inl, inr}
use mathlib.Core.List.{List, [], ◌∷◌}
use Prim.Native.Nat.{ℕ}
use lib.Dec.{T, eqb, eqb→eq}
use Rattle.bits.proofs.FlagLaws.{first, second, either}
use Rattle.refusals.specs.Verdict.{good}
use Rattle.refusals.specs.Order.{Place, first_of, NoneHolds}
use Rattle.refusals.proofs.OrderLaws.{none-good, good_none}

-- row n at field f is a place of the order
abbrev pub among : List Place → ℕ → ℕ → Bool
among [] n f = false
among (p ∷ ps) n f = eqb n p.row && eqb f p.field || among ps n f

-- where no row of the order holds, none does at a place of it
none-at : (holds : ℕ → ℕ → Bool) (ps : List Place) → NoneHolds holds ps → (n f : ℕ) → T (among ps n f) → holds n f ≡ false
none-at holds [] h n f t = absurd t
none-at holds (p ∷ ps) h n f t = by (none-at holds ps h.1 n f) (either (eqb n p.row && eqb f p.field) (among ps n f) t)
  where
    by : (T (among ps n f) → holds n f ≡ false) → T (eqb n p.row && eqb f p.field) ⊎ T (among ps n f) → holds n f ≡ false
    by rest (inl t) =
        ap₂ holds (eqb→eq n p.row (first (eqb n p.row) (eqb f p.field) t)) (eqb→eq f p.field (second (eqb n p.row) (eqb f p.field) t)) ∙ h.0
    by rest (inr t) = rest t

-- what is accepted is the value that was to be answered, and no row of the order holds
pub cleared : {A : Type 0} (holds : ℕ → ℕ → Bool) (ps : List Place) (a b : A) → first_of holds ps a ≡ good b
    → (a ≡ b) × ((n f : ℕ) → T (among ps n f) → holds n f ≡ false)
cleared holds ps a b e = let w = good_none holds ps a b e in (w.0, none-at holds ps w.1)

-- no row holds at any field, so none of the order's
all_none : (holds : ℕ → ℕ → Bool) (ps : List Place) → ((n f : ℕ) → holds n f ≡ false) → NoneHolds holds ps
all_none holds [] h = tt
all_none holds (p ∷ ps) h = (h p.row p.field, all_none holds ps h)

-- where no row holds at any field, the value is accepted
pub all-clear : {A : Type 0} (holds : ℕ → ℕ → Bool) (ps : List Place) (a : A) → ((n f : ℕ) → holds n f ≡ false) → first_of holds ps a ≡ good a
all-clear holds ps a h = none-good holds ps a (all_none holds ps h)

-- ---- tests that fail

-- of two tests that fail, the one that a third chooses
pub chosen_fails : (b : Bool) {x y : Bool} → x ≡ false → y ≡ false → cond b x y ≡ false
chosen_fails true p q = p
chosen_fails false p q = q

-- both of two, of which the second fails
pub and_fails : (b : Bool) {x : Bool} → x ≡ false → (b && x) ≡ false
and_fails true p = p
and_fails false p = refl

-- either of two that fail
pub or_fails : {x y : Bool} → x ≡ false → y ≡ false → (x || y) ≡ false
or_fails p q = ap₂ ◌||◌ p q
