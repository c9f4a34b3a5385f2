-- Document 02, P7: one reason is given, and no earlier one in the order may be true.
use Rattle.std.specs.Prelude.{◌≡◌, Bool, true, false, cond}
use mathlib.Core.List.{List, [], ◌∷◌, ◌++◌, foldr}

-- the first of some things that passes a test, or another thing where none does
unfoldable pub first_true : {A : Type 0} → (A → Bool) → List A → A → A
first_true P xs other = foldr (λ x rest. cond (P x) x rest) other xs

-- none of some things passes a test
abbrev pub NoneTrue : {A : Type 0} → (A → Bool) → List A → Type 0
NoneTrue P [] = Unit {0}
NoneTrue P (x ∷ xs) = (P x ≡ false) × NoneTrue P xs

-- x is one of some things and passes a test, and none of those before it does
pub record FirstTrue {A : Type 0} (P : A → Bool) (xs : List A) (x : A) : Type 0 where
  pub earlier : List A
  pub later : List A
  pub place : xs ≡ earlier ++ (x ∷ later)
  pub here : P x ≡ true
  pub none : NoneTrue P earlier
