-- Document 01, "Refusals": where several rows hold, the first in the checking order is given. A refusal is given exactly when its row holds and
-- none earlier does.
use Rattle.std.specs.Prelude.{◌≡◌, ◌↔◌, Bool, true, false, cond, ℕ}
use mathlib.Core.List.{List, [], ◌∷◌, ◌++◌, map, flat_map}
use Rattle.refusals.specs.Verdict.{Verdict, good, refused_at}

-- a place of the checking order: a row of the table of refusals, at a field
pub record Place : Type 0 where
  pub row : ℕ
  pub field : ℕ

-- the first place whose row holds; where none does, a value
unfoldable pub first_of : {A : Type 0} → (ℕ → ℕ → Bool) → List Place → A → Verdict A
first_of holds [] a = good a
first_of holds (p ∷ ps) a = cond (holds p.row p.field) (refused_at p.row p.field) (first_of holds ps a)

-- rows at one field
unfoldable pub places_at : List ℕ → ℕ → List Place
places_at rows f = map (λ n. record { row = n; field = f }) rows

-- some fields, one after the other, each with its rows
unfoldable pub places_in : (ℕ → List ℕ) → List ℕ → List Place
places_in rows fs = flat_map (λ f. places_at (rows f) f) fs

-- no row of some places holds
abbrev pub NoneHolds : (ℕ → ℕ → Bool) → List Place → Type 0
NoneHolds holds [] = Unit {0}
NoneHolds holds (p ∷ ps) = (holds p.row p.field ≡ false) × NoneHolds holds ps

-- row n holds at field f, a place of the checking order, and no row of an earlier place does
pub record FirstAt (holds : ℕ → ℕ → Bool) (order : List Place) (n f : ℕ) : Type 0 where
  pub earlier : List Place
  pub later : List Place
  pub place : order ≡ earlier ++ (record { row = n; field = f } ∷ later)
  pub here : holds n f ≡ true
  pub none : NoneHolds holds earlier

-- "exactly when", of an answer to what is checked in an order, where `value` is due if nothing is at fault: a row is given at a field exactly
-- when it is the first that holds, and the value exactly when none does
pub record Exactly {A : Type 0} (holds : ℕ → ℕ → Bool) (order : List Place) (value : A) (answer : Verdict A) : Type 0 where
  pub refuses : (n f : ℕ) → (answer ≡ refused_at n f) ↔ FirstAt holds order n f
  pub accepts : (answer ≡ good value) ↔ NoneHolds holds order
