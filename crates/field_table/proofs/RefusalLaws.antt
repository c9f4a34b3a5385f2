-- The first fault of a table walked row by row is the first place of its checking order whose row holds. Assumes nothing.
use mathlib.Core.Path.{◌≡◌, refl, sym, ap, ◌∙◌, fun_ext}
use mathlib.Core.Logic.{⊎_elim}
use mathlib.Core.Bool.{Bool, true, false, not, cond, ◌&&◌, ◌||◌, and-false}
use mathlib.Core.List.{List, [], ◌∷◌, flat_map}
use Prim.Native.Nat.{ℕ, suc, ◌^◌, ◌≤◌, ◌<◌}
use native.Mathlib.Omega.{arith}
use lib.Dec.{T, eqb, leb, ltb, leb→le, le→leb, eqb→eq}
use lib.IntN.{ℤ}
use borrow.Author.Tests.{eq-eqb, ne_eqb, eqb-true, eqb-false}
use Rattle.bits.proofs.FlagLaws.{both, first, second, either}
use Rattle.refusals.specs.Refusal.{Judged, accepted, refused, refused_by}
use Rattle.refusals.specs.Verdict.{Verdict, good, refused_at, after, fault_of}
use Rattle.refusals.specs.Order.{first_of, places_at, places_in}
use Rattle.field_table.specs.Coding.{Field, outside, is_code, code_of, encode, has_at, setting_at, least_magnitude, decode}
use Rattle.field_table.specs.Walk.{given, held, coding_of, check_of, reading_of, judge_of}
use Rattle.field_table.specs.Refusals.{some_row, row_holds, row_held, fields_after, order_of, ascends_from}
use Rattle.field_table.proofs.PlaceLaws.{range_rows}

-- a verdict without a value
abbrev Found : Type 0
Found = Verdict (Unit {0})

-- ---- which rows a field is refused by

-- by 3 or 4 only, and by 4 only where it has reserved codes
abbrev sound : {A : Type 0} → Bool → Judged A → Bool
sound none (accepted a) = true
sound none (refused n) = eqb n 3 || eqb n 4 && not none

-- a field's row has no reserved codes
abbrev none_reserved : Field → Bool
none_reserved f = eqb f.row.outside 3

-- so are codings
coding-sound : (zs : List ℤ) (f : Field) → T (sound (none_reserved f) (coding_of zs f))
unfolding encode
coding-sound zs f = by (outside f.row s) (is_code f.coding f.row.width s) (none_reserved f) (code_of f s)
  where
    s : ℤ
    s = given zs f.row

    by : (o i e : Bool) (c : ℕ) → T (sound e (cond o (refused (cond i (cond e 3 4) 3)) (accepted c)))
    by true true true c = tt
    by true true false c = tt
    by true false e c = tt
    by false i e c = tt

-- and readings
reading_sound : (image : List ℕ) (f : Field) → T (sound (none_reserved f) (reading_of image f))
unfolding decode
reading_sound image f =
    by (has_at f c (least_magnitude f c)) (ltb c (2 ^ f.row.width)) (none_reserved f) (setting_at f c (least_magnitude f c))
  where
    c : ℕ
    c = held image f.row

    by : (a i e : Bool) (z : ℤ) → T (sound e (cond a (accepted z) (refused (cond i (cond e 3 4) 3))))
    by true i e z = tt
    by false true true z = tt
    by false true false z = tt
    by false false e z = tt

-- ---- a table row by row

-- the faults of its rows in turn
abbrev faults : {A : Type 0} → (Field → Judged A) → List Field → Found
faults j [] = good tt
faults j (x ∷ xs) = after (fault_of x.row.field (j x)) (faults j xs)

-- those of the settings' codings are the check
check_faults : (zs : List ℤ) (fs : List Field) → check_of zs fs ≡ faults (coding_of zs) fs
unfolding check_of
check_faults zs [] = refl
check_faults zs (x ∷ xs) = ap (after (fault_of x.row.field (coding_of zs x))) (check_faults zs xs)

-- those of an image's readings are its judgement
judge_faults : (image : List ℕ) (fs : List Field) → judge_of image fs ≡ faults (reading_of image) fs
unfolding judge_of
judge_faults image [] = refl
judge_faults image (x ∷ xs) = ap (after (fault_of x.row.field (reading_of image x))) (judge_faults image xs)

-- ---- the places of the checking order

module _ {A : Type 0} (j : Field → Judged A) (is-sound : (f : Field) → T (sound (none_reserved f) (j f))) where
  -- row n holds at field f of a table
  abbrev rows : List Field → ℕ → ℕ → Bool
  rows xs n f = some_row (λ x. refused_by n (j x)) f xs

  -- the first that holds of a field and those after it
  places : (h : ℕ → ℕ → Bool) (f : ℕ) (fs : List ℕ)
      → first_of h (places_in range_rows (f ∷ fs)) (tt {0}) ≡ cond (h 3 f) (refused_at 3 f) (cond (h 4 f) (refused_at 4 f) (first_of h (places_in range_rows fs) tt))
  unfolding first_of places_in places_at flat_map
  places h f fs = refl

  -- the field that the rows after a row have at least
  abbrev next : Field → ℕ
  next x = cond (none_reserved x) x.row.field (suc x.row.field)

  -- it is the row's own or a later one
  next_from : (x : Field) → x.row.field ≤ next x
  next_from x = by (none_reserved x)
    where
      by : (b : Bool) → x.row.field ≤ cond b x.row.field (suc x.row.field)
      by true = omega arith
      by false = omega arith

  -- the first row of a table that ascends, and those after it
  here : (f : ℕ) (x : Field) (xs : List Field) → T (ascends_from f (x ∷ xs)) → f ≤ x.row.field
  unfolding ascends_from
  here f x xs t = leb→le _ _ (first (leb f x.row.field) (ascends_from (next x) xs) t)

  rest : (f : ℕ) (x : Field) (xs : List Field) → T (ascends_from f (x ∷ xs)) → T (ascends_from (next x) xs)
  unfolding ascends_from
  rest f x xs t = second (leb f x.row.field) (ascends_from (next x) xs) t

  -- a table ascends from its first field on
  from_itself : (x : Field) (xs : List Field) → T (ascends_from (next x) xs) → T (ascends_from x.row.field (x ∷ xs))
  unfolding ascends_from
  from_itself x xs t = both (leb x.row.field x.row.field) (ascends_from (next x) xs) (le→leb x.row.field x.row.field (omega arith)) t

  -- no row holds below the first field
  none_below : (n g f : ℕ) (xs : List Field) → g < f → T (ascends_from f xs) → rows xs n g ≡ false
  unfolding some_row
  none_below n g f [] l t = refl
  none_below n g f (x ∷ xs) l t =
      let a = here f x xs t in
      let b = next_from x in
      let e : eqb g x.row.field ≡ false = ne_eqb g x.row.field (omega arith) in
      rw e (none_below n g (next x) xs (omega arith) (rest f x xs t))

  -- a row that passes
  row-passes : (x : Field) (xs : List Field) {a : A} → j x ≡ accepted a → rows (x ∷ xs) ≡ rows xs
  unfolding some_row
  row-passes x xs e = fun_ext (λ n. fun_ext (λ f. rw e (ap (λ b. b || rows xs n f) (and-false (eqb f x.row.field)))))

  -- a row that is refused by n
  row-refused : (x : Field) (xs : List Field) (n : ℕ) → j x ≡ refused n → rows (x ∷ xs) n x.row.field ≡ true
  unfolding some_row
  row-refused x xs n e = rw (e, eq-eqb n n refl, eq-eqb x.row.field x.row.field refl)

  -- one that is refused by another
  row_other : (x : Field) (xs : List Field) (m n : ℕ) → j x ≡ refused m → (m ≡ n → ⊥) → rows xs n x.row.field ≡ false
      → rows (x ∷ xs) n x.row.field ≡ false
  unfolding some_row
  row_other x xs m n e d r = rw (e, ne_eqb m n d, r) (ap (λ b. b || false) (and-false (eqb x.row.field x.row.field)))

  -- a row's field and those after it
  from_row : (x : Field) (xs : List Field) → T (ascends_from (next x) xs)
      → first_of (rows xs) (places_in range_rows (x.row.field ∷ fields_after x.row.field xs)) tt ≡ faults j xs
      → first_of (rows (x ∷ xs)) (places_in range_rows (x.row.field ∷ fields_after x.row.field xs)) tt ≡ faults j (x ∷ xs)
  from_row x xs t later = by (j x) refl (is-sound x)
    where
      f : ℕ
      f = x.row.field

      fs : List ℕ
      fs = fields_after f xs

      by : (v : Judged A) → j x ≡ v → T (sound (none_reserved x) v)
          → first_of (rows (x ∷ xs)) (places_in range_rows (f ∷ fs)) tt ≡ after (fault_of f v) (faults j xs)
      by (accepted a) e s = ap (λ h. first_of h (places_in range_rows (f ∷ fs)) tt) (row-passes x xs e) ∙ later
      by (refused n) e s = ⊎_elim three four (either (eqb n 3) (eqb n 4 && not (none_reserved x)) s)
        where
          past : (b : Bool) → none_reserved x ≡ b → T (not b) → rows xs 3 f ≡ false
          past true d q = absurd q
          past false d q = none_below 3 f (next x) xs (rw d (omega arith)) t

          three : T (eqb n 3) → first_of (rows (x ∷ xs)) (places_in range_rows (f ∷ fs)) (tt {0}) ≡ refused_at n f
          three q =
              let p = eqb→eq n 3 q in
              places (rows (x ∷ xs)) f fs ∙ rw (p, row-refused x xs 3 (e ∙ ap refused p))

          four : T (eqb n 4 && not (none_reserved x)) → first_of (rows (x ∷ xs)) (places_in range_rows (f ∷ fs)) (tt {0}) ≡ refused_at n f
          four q =
              let p = eqb→eq n 4 (first (eqb n 4) (not (none_reserved x)) q) in
              let none = past (none_reserved x) refl (second (eqb n 4) (not (none_reserved x)) q) in
              let not_three = row_other x xs 4 3 (e ∙ ap refused p) (λ d. omega arith) none in
              places (rows (x ∷ xs)) f fs
              ∙ rw (p, not_three, row-refused x xs 4 (e ∙ ap refused p))

  -- a field and those after it, of rows from that field on
  from_field : (f k : ℕ) (xs : List Field) → f ≤ k → T (ascends_from k xs) → first_of (rows xs) (places_in range_rows (f ∷ fields_after f xs)) tt ≡ faults j xs
  unfolding fields_after first_of places_in places_at some_row flat_map
  from_field f k [] l t = refl
  from_field f k (x ∷ xs) l t =
      by (eqb f x.row.field) refl
      (from_row x xs (rest k x xs t) (from_field x.row.field (next x) xs (next_from x) (rest k x xs t)))
    where
      g : ℕ
      g = x.row.field

      by : (b : Bool) → eqb f g ≡ b → first_of (rows (x ∷ xs)) (places_in range_rows (g ∷ fields_after g xs)) tt ≡ faults j (x ∷ xs)
          → first_of (rows (x ∷ xs)) (places_in range_rows (f ∷ cond b (fields_after g xs) (g ∷ fields_after g xs))) tt ≡ faults j (x ∷ xs)
      by true e h = ap (λ y. first_of (rows (x ∷ xs)) (places_in range_rows (y ∷ fields_after g xs)) tt) (eqb-true f g e) ∙ h
      by false e h =
          let d = eqb-false f g e in
          let a = here k x xs t in
          let s = from_itself x xs (rest k x xs t) in
          places (rows (x ∷ xs)) f (g ∷ fields_after g xs)
          ∙ rw (none_below 3 f g (x ∷ xs) (omega arith) s, none_below 4 f g (x ∷ xs) (omega arith) s) h

  -- a whole table
  from_table : (xs : List Field) → T (ascends_from 1 xs) → first_of (rows xs) (order_of xs) tt ≡ faults j xs
  unfolding fields_after first_of places_in flat_map
  from_table [] t = refl
  from_table (x ∷ xs) t =
      let f = x.row.field in
      let a = here 1 x xs t in
      let e : eqb 0 f ≡ false = ne_eqb 0 f (omega arith) in
      let later = rest 1 x xs t in
      ap (λ b. first_of (rows (x ∷ xs)) (places_in range_rows (cond b (fields_after f xs) (f ∷ fields_after f xs))) tt) e
      ∙ from_row x xs later (from_field f (next x) xs (next_from x) later)

-- ---- settings and images

-- the check of settings is the first place of the table's order whose row holds of them
pub check_first : (zs : List ℤ) (fs : List Field) → T (ascends_from 1 fs) → check_of zs fs ≡ first_of (row_holds zs fs) (order_of fs) tt
unfolding row_holds
check_first zs fs t = check_faults zs fs ∙ sym (from_table (coding_of zs) (coding-sound zs) fs t)

-- and so is the judgement of an image
pub judge_first : (image : List ℕ) (fs : List Field) → T (ascends_from 1 fs) → judge_of image fs ≡ first_of (row_held image fs) (order_of fs) tt
unfolding row_held
judge_first image fs t = judge_faults image fs ∙ sym (from_table (reading_of image) (reading_sound image) fs t)
