-- Tests on register numbers as facts: the registers among some, those that data are for, and those in which two images differ. Assumes nothing.
use mathlib.Core.Path.{◌≡◌, refl, subst⁻¹}
use mathlib.Core.Logic.{◌⊎◌, inl, inr}
use mathlib.Core.Bool.{Bool, true, false}
use mathlib.Core.List.{List}
use Prim.Native.Nat.{ℕ, ◌≤◌, ◌<◌}
use native.Mathlib.Omega.{arith}
use lib.Dec.{T, leb, ltb, eqb, leb→le, ltb→lt}
use lib.ListN.{get_or}
use borrow.Author.Tests.{leb-true, leb-false, le-leb, ltb-false, eqb-true, eqb-false, eq-eqb, not-true}
use Rattle.bits.proofs.FlagLaws.{either, left, right, both_true}
use Rattle.bus.specs.Registers.{differs, among, apart}

-- ---- among some registers

-- what lies among some registers
pub among_true : (a z r : ℕ) → among a z r ≡ true → (a ≤ r) × (r ≤ z)
among_true a z r e = let q = both_true (leb a r) (leb r z) e in (leb-true a r q.0, leb-true r z q.1)

-- and back
pub among_in : (a z r : ℕ) → a ≤ r → r ≤ z → among a z r ≡ true
among_in a z r g h = rw (le-leb a r g, le-leb r z h)

-- and what lies outside them
pub among_out : (a z r : ℕ) → (r < a) ⊎ (z < r) → among a z r ≡ false
among_out a z r h = split (among a z r) refl
  where
    no_way : (a ≤ r) × (r ≤ z) → (r < a) ⊎ (z < r) → ⊥
    no_way q (inl u) = omega arith
    no_way q (inr u) = omega arith

    split : (t : Bool) → among a z r ≡ t → among a z r ≡ false
    split true e = absurd (no_way (among_true a z r e) h)
    split false e = e

-- either it does or it doesn't
pub among? : (a z r : ℕ) → ((a ≤ r) × (r ≤ z)) ⊎ ((r < a) ⊎ (z < r))
among? a z r = low (leb a r) refl (leb r z) refl
  where
    low : (x : Bool) → leb a r ≡ x → (y : Bool) → leb r z ≡ y → ((a ≤ r) × (r ≤ z)) ⊎ ((r < a) ⊎ (z < r))
    low true e true f = inl (leb-true a r e, leb-true r z f)
    low true e false f = inr (inr (leb-false r z f))
    low false e y f = inr (inl (leb-false a r e))

-- ---- data for none of some registers

-- data that are for none of the registers a to z end at a or before, or start past z
pub apart_of : (s e a z : ℕ) → T (apart s e a z) → (e ≤ a) ⊎ (z < s)
apart_of s e a z h = go (either (leb e a) (ltb z s) h)
  where
    go : T (leb e a) ⊎ T (ltb z s) → (e ≤ a) ⊎ (z < s)
    go (inl p) = inl (leb→le e a p)
    go (inr p) = inr (ltb→lt z s p)

-- a register from a to z that is among those from s on before e
pub record Meets (s e a z : ℕ) : Type 0 where
  pub at : ℕ
  pub from : s ≤ at
  pub before : at < e
  pub low : a ≤ at
  pub high : at ≤ z

-- either they are for none of them or for one
pub apart? : (s e a z : ℕ) → s < e → a ≤ z → T (apart s e a z) ⊎ Meets s e a z
apart? s e a z h k = ends (leb e a) refl (ltb z s) refl (leb a s) refl
  where
    ends : (x : Bool) → leb e a ≡ x → (y : Bool) → ltb z s ≡ y → (w : Bool) → leb a s ≡ w → T (apart s e a z) ⊎ Meets s e a z
    ends true p y q w r = inl (left (leb e a) (ltb z s) (subst⁻¹ T p tt))
    ends false p true q w r = inl (right (leb e a) (ltb z s) (subst⁻¹ T q tt))
    ends false p false q true r =
        inr (record { at = s; from = omega arith; before = h; low = leb-true a s r; high = ltb-false z s q })
    ends false p false q false r =
        let b = leb-false a s r in
        inr (record { at = a; from = omega arith; before = leb-false e a p; low = omega arith; high = k })

-- ---- two images

-- the images differ in a register, or have one byte there
pub differs_or_same : (image wanted : List ℕ) (r : ℕ) → (differs image wanted r ≡ true) ⊎ (get_or image r 0 ≡ get_or wanted r 0)
differs_or_same image wanted r = split (eqb (get_or image r 0) (get_or wanted r 0)) refl
  where
    split : (b : Bool) → eqb (get_or image r 0) (get_or wanted r 0) ≡ b → (differs image wanted r ≡ true) ⊎ (get_or image r 0 ≡ get_or wanted r 0)
    split true e = inr (eqb-true (get_or image r 0) (get_or wanted r 0) e)
    split false e = inl (rw e)

-- they don't do both
pub not_both : (image wanted : List ℕ) (r : ℕ) → differs image wanted r ≡ true → get_or image r 0 ≡ get_or wanted r 0 → ⊥
not_both image wanted r d = eqb-false (get_or image r 0) (get_or wanted r 0) (not-true (eqb (get_or image r 0) (get_or wanted r 0)) d)

-- an image has no difference from itself
pub no_difference : (image : List ℕ) (r : ℕ) → differs image image r ≡ false
no_difference image r = rw (eq-eqb (get_or image r 0) (get_or image r 0) refl)
