-- The first of some things that passes a test: it is one of them where some passes, and those that don't may be left out in front. Assumes nothing.
use mathlib.Core.Path.{◌≡◌, refl, ap, ◌∙◌}
use mathlib.Core.Bool.{Bool, true, false, cond}
use mathlib.Core.List.{List, [], ◌∷◌, ◌++◌, map}
use Rattle.std.specs.Prelude.{Option, None, Some, unwrap_or}
use Rattle.std.specs.List.{find}
use Rattle.std.specs.Option.{option_map}
use Rattle.adv7194_reasons.specs.First.{first_true, NoneTrue, FirstTrue}

module _ {A : Type 0} (P : A → Bool) where
  -- ---- none of some things

  -- none of two lists' passes where none of both passes
  pub none-append : (xs ys : List A) → NoneTrue P (xs ++ ys) → NoneTrue P xs × NoneTrue P ys
  none-append [] ys h = (tt, h)
  none-append (x ∷ xs) ys h = let q = none-append xs ys h.1 in ((h.0, q.0), q.1)

  -- none of those that are made from others passes where none of the others does by what is made of it
  pub none-map : {B : Type 0} (f : B → A) (ys : List B) → NoneTrue P (map f ys) → NoneTrue (λ y. P (f y)) ys
  none-map f [] h = tt
  none-map f (y ∷ ys) h = (h.0, none-map f ys h.1)

  -- and back
  pub map-none : {B : Type 0} (f : B → A) (ys : List B) → NoneTrue (λ y. P (f y)) ys → NoneTrue P (map f ys)
  map-none f [] h = tt
  map-none f (y ∷ ys) h = (h.0, map-none f ys h.1)

  -- ---- the first

  -- one that passes is it
  pub first-here : (x : A) (xs : List A) (other : A) → P x ≡ true → first_true P (x ∷ xs) other ≡ x
  unfolding first_true
  first-here x xs other e = rw e

  -- one that doesn't is left out
  pub first_next : (x : A) (xs : List A) (other : A) → P x ≡ false → first_true P (x ∷ xs) other ≡ first_true P xs other
  unfolding first_true
  first_next x xs other e = rw e

  -- it is what std's search finds
  pub first_true_find : (xs : List A) (other : A) → unwrap_or (find P xs) other ≡ first_true P xs other
  unfolding first_true
  first_true_find [] other = refl
  first_true_find (x ∷ xs) other = split (P x) (first_true_find xs other)
    where
      split : (t : Bool) → unwrap_or (find P xs) other ≡ first_true P xs other → unwrap_or (cond t (Some x) (find P xs)) other ≡ cond t x (first_true P xs other)
      split true e = refl
      split false e = e

  pub first_found : (xs : List A) (r : Option A) (other : A) → option_map (λ (x : A). x) r ≡ find P xs → unwrap_or r other ≡ first_true P xs other
  first_found xs None other e = ap (λ (o : Option A). unwrap_or o other) e ∙ first_true_find xs other
  first_found xs (Some x) other e = ap (λ (o : Option A). unwrap_or o other) e ∙ first_true_find xs other

  -- so are several
  pub first_past : (xs ys : List A) (other : A) → NoneTrue P xs → first_true P (xs ++ ys) other ≡ first_true P ys other
  first_past [] ys other h = refl
  first_past (x ∷ xs) ys other h = first_next x (xs ++ ys) other h.0 ∙ first_past xs ys other h.1

  -- what passes, none before it, is what is given
  pub first-is : (xs : List A) (x other : A) → FirstTrue P xs x → first_true P xs other ≡ x
  first-is xs x other h =
      ap (λ (l : List A). first_true P l other) h.place
      ∙ first_past h.earlier (x ∷ h.later) other h.none ∙ first-here x h.later other h.here

  -- where not all fail, what is given passes, and none before it does
  pub first_true_lem : (xs : List A) (other : A) → (NoneTrue P xs → ⊥) → FirstTrue P xs (first_true P xs other)
  unfolding first_true
  first_true_lem [] other some = absurd (some tt)
  first_true_lem (x ∷ xs) other some = split (P x) refl (first_true_lem xs other)
    where
      split : (b : Bool) → P x ≡ b → ((NoneTrue P xs → ⊥) → FirstTrue P xs (first_true P xs other)) → FirstTrue P (x ∷ xs) (cond b x (first_true P xs other))
      split true e rest = record { earlier = []; later = xs; place = refl; here = e; none = tt }
      split false e rest =
          let q = rest (λ n. some (e, n)) in
          record { earlier = x ∷ q.earlier; later = q.later; place = ap (λ (l : List A). x ∷ l) q.place; here = q.here; none = (e, q.none) }
