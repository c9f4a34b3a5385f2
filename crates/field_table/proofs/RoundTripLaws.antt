-- What was read from an image means that image, and what was placed is read back. Assumes nothing.
use mathlib.Core.Path.{◌≡◌, refl, sym, ap, ap₂, ◌∙◌, subst}
use mathlib.Core.Bool.{Bool, true, false, not, cond, ◌&&◌, ◌||◌}
use mathlib.Core.Logic.{◌⊎◌, inl, inr}
use mathlib.Core.List.{List, [], ◌∷◌}
use Prim.Native.Nat.{ℕ, zero, suc, ◌^◌, ◌<◌}
use native.Mathlib.Nat.{mod-eq_of_lt}
use native.Mathlib.Omega.{arith}
use lib.Arith.{lt_of_le-ne}
use lib.Dec.{T, eqb, ltb, ltb→lt}
use lib.IntN.{ℤ, pos}
use lib.ListN.{length, get_or, length-set, get_or-eq_default}
use lib.Seq.{get_or-set_same, get_or-set_other, ext_get_or}
use borrow.Author.Tests.{eqb-true, eqb-false, ltb-true, ltb-false}
use Rattle.refusals.specs.Refusal.{Judged, accepted, refused, value_or}
use Rattle.refusals.specs.Verdict.{Verdict, good, after, fault_of}
use Rattle.bits.proofs.FlagLaws.{first, second}
use Rattle.field_table.specs.declared.row.Row.{Row}
use Rattle.field_table.specs.Coding.{Coding, plain, offset, sign_magnitude, rounded, rounded_signed, Field, encode, decode, plain_of}
use Rattle.field_table.specs.Writes.{puts, AllHeld}
use Rattle.field_table.specs.Walk.{given, held, coding_of, check_of, write_of, writes_of, reading_of, judge_of, store, numbers_of, row_fits, within}
use Rattle.field_table.specs.RoundTrip.{rows_apart, apart_from, all_apart, some_at, only_zero, own_numbers, all_numbered, MeansItself, ReadsBack}
use Rattle.field_table.proofs.Decoding.{decode_coded, only_zero_lem}
use Rattle.field_table.proofs.PlainLaws.{row_fits_lem, code_fits, read_coded}
use Rattle.field_table.proofs.WriteLaws.{AllFit}
use Rattle.field_table.proofs.ApartLaws as writes
use Rattle.field_table.proofs.ApartLaws.{AllThere, puts-held, puts_there}

-- what holds of each field
abbrev pub All : (Field → Type 0) → List Field → Type 0
All P [] = Unit {0}
All P (f ∷ fs) = P f × All P fs

-- ---- verdicts

-- a good verdict has no refusal before it
first_good : {A : Type 0} (f : ℕ) (j : Judged A) (v : Verdict (Unit {0})) → after (fault_of f j) v ≡ good tt → (a : A) × (j ≡ accepted a)
first_good f (accepted a) v e = (a, refl)
first_good f (refused n) v e = let z : ◌≡◌ {A = ℕ} 0 1 = cc in absurd (omega arith)

rest-good : {A : Type 0} (f : ℕ) (j : Judged A) (v : Verdict (Unit {0})) → after (fault_of f j) v ≡ good tt → v ≡ good tt
rest-good f (accepted a) v e = e
rest-good f (refused n) v e = let z : ◌≡◌ {A = ℕ} 0 1 = cc in absurd (omega arith)

-- ---- an image that is read means itself

-- a field's reading is its setting
abbrev IsRead : List ℕ → Field → Type 0
IsRead image f = reading_of image f ≡ accepted (value_or (pos 0) (reading_of image f))

judge_each : (image : List ℕ) (fs : List Field) → judge_of image fs ≡ good tt → All (IsRead image) fs
unfolding judge_of
judge_each image [] e = tt
judge_each image (f ∷ fs) e =
    let j = reading_of image f in
    let g = first_good f.row.field j (judge_of image fs) e in
    (g.1 ∙ ap (λ x. accepted (value_or (pos 0) x)) (sym g.1), judge_each image fs (rest-good f.row.field j (judge_of image fs) e))

-- storing keeps how many numbers there are
pub numbers-length : (image : List ℕ) (zs : List ℤ) (fs : List Field) → length (numbers_of image zs fs) ≡ length zs
unfolding numbers_of
numbers-length image zs [] = refl
numbers-length image zs (f ∷ fs) = numbers-length image (store image zs f) fs ∙ length-set zs f.row.index _

-- a number that is no field's stays
numbers-kept : (image : List ℕ) (zs : List ℤ) (fs : List Field) (k : ℕ) → T (not (some_at k fs)) → get_or (numbers_of image zs fs) k (pos 0) ≡ get_or zs k (pos 0)
unfolding numbers_of some_at
numbers-kept image zs [] k t = refl
numbers-kept image zs (f ∷ fs) k t = by (eqb k f.row.index) refl t (numbers-kept image (store image zs f) fs k)
  where
    by : (b : Bool) → eqb k f.row.index ≡ b → T (not (b || some_at k fs))
        → (T (not (some_at k fs)) → get_or (numbers_of image (store image zs f) fs) k (pos 0) ≡ get_or (store image zs f) k (pos 0))
        → get_or (numbers_of image (store image zs f) fs) k (pos 0) ≡ get_or zs k (pos 0)
    by true e u kept = absurd u
    by false e u kept = kept u ∙ get_or-set_other zs f.row.index k _ (pos 0) (eqb-false k f.row.index e)

-- each field's number is its setting
numbers-each : (image : List ℕ) (zs : List ℤ) (fs : List Field) → T (own_numbers (length zs) fs) → All (IsRead image) fs
    → All (λ f. given (numbers_of image zs fs) f.row ≡ value_or (pos 0) (reading_of image f)) fs
unfolding numbers_of own_numbers
numbers-each image zs [] t h = tt
numbers-each image zs (f ∷ fs) t h =
    let own = cond (ltb f.row.index (length zs)) (not (some_at f.row.index fs)) (only_zero f.row) in
    let later = subst (λ (n : ℕ). T (own_numbers n fs)) (sym (length-set zs f.row.index _)) (second own (own_numbers (length zs) fs) t) in
    (by (ltb f.row.index (length zs)) refl (first own (own_numbers (length zs) fs) t), numbers-each image (store image zs f) fs later h.1)
  where
    size : length (numbers_of image (store image zs f) fs) ≡ length zs
    size = numbers-length image (store image zs f) fs ∙ length-set zs f.row.index _

    by : (b : Bool) → ltb f.row.index (length zs) ≡ b → T (cond b (not (some_at f.row.index fs)) (only_zero f.row))
        → given (numbers_of image (store image zs f) fs) f.row ≡ value_or (pos 0) (reading_of image f)
    by true e u = numbers-kept image _ fs f.row.index u ∙ get_or-set_same zs f.row.index _ (pos 0) (ltb-true f.row.index (length zs) e)
    by false e u =
        get_or-eq_default (numbers_of image (store image zs f) fs) (pos 0) (omega (arith, ltb-false f.row.index (length zs) e, size))
        ∙ sym (only_zero_lem f (held image f.row) _ h.0 u)

-- settings whose codes the image holds
module _ (image : List ℕ) (zs : List ℤ) where
  passed : (fs : List Field) → All (λ f. coding_of zs f ≡ accepted (held image f.row)) fs → check_of zs fs ≡ good tt
  unfolding check_of
  passed [] h = refl
  passed (f ∷ fs) h = ap (λ j. after (fault_of f.row.field j) (check_of zs fs)) h.0 ∙ passed fs h.1

  there : (fs : List Field) → All (λ f. coding_of zs f ≡ accepted (held image f.row)) fs → AllThere image (writes_of zs fs)
  unfolding writes_of
  there [] h = tt
  there (f ∷ fs) h = (sym (ap (value_or 0) h.0), there fs h.1)

-- what was read, placed over its image, is that image: whatever the codings, since a setting that was read has the code
pub means_itself : (image : List ℕ) (zs : List ℤ) (fs : List Field) → T (own_numbers (length zs) fs) → judge_of image fs ≡ good tt
    → MeansItself fs image (numbers_of image zs fs)
means_itself image zs fs own e =
    let new = numbers_of image zs fs in
    let each = judge_each image fs e in
    let coded = both fs each (numbers-each image zs fs own each) in
    record { passes = passed image new fs coded; same = puts_there image (writes_of new fs) (there image new fs coded) }
  where
    both : (gs : List Field) → All (IsRead image) gs → All (λ f. given (numbers_of image zs fs) f.row ≡ value_or (pos 0) (reading_of image f)) gs
        → All (λ f. coding_of (numbers_of image zs fs) f ≡ accepted (held image f.row)) gs
    both [] h k = tt
    both (f ∷ gs) h k = (ap (encode f) k.0 ∙ decode_coded f (held image f.row) _ h.0, both gs h.1 k.1)

-- ---- settings that were placed are read back

-- a field's coding is its code
abbrev IsCoded : List ℤ → Field → Type 0
IsCoded zs f = coding_of zs f ≡ accepted (value_or 0 (coding_of zs f))

check_each : (zs : List ℤ) (fs : List Field) → check_of zs fs ≡ good tt → All (IsCoded zs) fs
unfolding check_of
check_each zs [] e = tt
check_each zs (f ∷ fs) e =
    let j = coding_of zs f in
    let g = first_good f.row.field j (check_of zs fs) e in
    (g.1 ∙ ap (λ x. accepted (value_or 0 x)) (sym g.1), check_each zs fs (rest-good f.row.field j (check_of zs fs) e))

-- the writes of fields that are apart are apart
apart_from_lem : (zs : List ℤ) (f : Field) (fs : List Field) → apart_from f.row fs ≡ writes.apart_from (write_of zs f) (writes_of zs fs)
unfolding apart_from writes_of
apart_from_lem zs f [] = refl
apart_from_lem zs f (g ∷ fs) = ap (λ b. rows_apart f.row g.row && b) (apart_from_lem zs f fs)

pub all_apart_lem : (zs : List ℤ) (fs : List Field) → all_apart fs ≡ writes.all_apart (writes_of zs fs)
unfolding all_apart writes_of
all_apart_lem zs [] = refl
all_apart_lem zs (f ∷ fs) = ap₂ (λ a b. a && b) (apart_from_lem zs f fs) (all_apart_lem zs fs)

-- a field's codes fit its bits
abbrev pub CodesFit : Field → Type 0
CodesFit f = (z : ℤ) → value_or 0 (encode f z) < 2 ^ f.row.width

-- the writes of fields whose codes fit do
pub all_fit : (zs : List ℤ) (n : ℕ) (fs : List Field) → All CodesFit fs → T (within n fs) → AllFit n (writes_of zs fs)
unfolding writes_of within
all_fit zs n [] h t = tt
all_fit zs n (f ∷ fs) h t =
    let a = ltb f.row.register n in
    ((ltb→lt f.row.register n (first a (within n fs) t), inl (h.0 (given zs f.row))), all_fit zs n fs h.1 (second a (within n fs) t))

-- what an image holds after them
all_held : (zs : List ℤ) (image : List ℕ) (fs : List Field) → All CodesFit fs → AllHeld image (writes_of zs fs)
    → All (λ f. held image f.row ≡ value_or 0 (coding_of zs f)) fs
unfolding writes_of
all_held zs image [] k h = tt
all_held zs image (f ∷ fs) k h = (h.0 ∙ mod-eq_of_lt (k.0 (given zs f.row)), all_held zs image fs k.1 h.1)

-- readings that are the settings
module _ (image : List ℕ) (zs : List ℤ) where
  -- a number that is the setting's already, or some field's
  number_read : (fs : List Field) → All (λ f. reading_of image f ≡ accepted (given zs f.row)) fs → (old : List ℤ) → length old ≡ length zs
      → (k : ℕ) → k < length zs
      → (get_or old k (pos 0) ≡ get_or zs k (pos 0)) ⊎ T (some_at k fs) → get_or (numbers_of image old fs) k (pos 0) ≡ get_or zs k (pos 0)
  unfolding numbers_of some_at
  number_read [] h old size k lt (inl e) = e
  number_read [] h old size k lt (inr t) = absurd t
  number_read (f ∷ fs) h old size k lt p =
      number_read fs h.1 (store image old f) (length-set old f.row.index _ ∙ size) k lt (by (eqb k f.row.index) refl p)
    where
      by : (b : Bool) → eqb k f.row.index ≡ b → (get_or old k (pos 0) ≡ get_or zs k (pos 0)) ⊎ T (b || some_at k fs)
          → (get_or (store image old f) k (pos 0) ≡ get_or zs k (pos 0)) ⊎ T (some_at k fs)
      by true e q =
          let same = eqb-true k f.row.index e in
          inl (ap (λ i. get_or (store image old f) i (pos 0)) same
          ∙ get_or-set_same old f.row.index _ (pos 0) (omega (arith, same, size, lt)) ∙ ap (value_or (pos 0)) h.0 ∙ ap (λ i. get_or zs i (pos 0)) (sym same))
      by false e (inl q) = inl (get_or-set_other old f.row.index k _ (pos 0) (eqb-false k f.row.index e) ∙ q)
      by false e (inr t) = inr t

  numbered : (n : ℕ) (fs : List Field) (k : ℕ) → T (all_numbered n fs) → k < n → T (some_at k fs)
  unfolding all_numbered
  numbered zero fs k t lt = absurd (omega arith)
  numbered (suc n) fs k t lt = by (eqb k n) refl (numbered n fs k (second (some_at n fs) (all_numbered n fs) t))
    where
      by : (b : Bool) → eqb k n ≡ b → (k < n → T (some_at k fs)) → T (some_at k fs)
      by true e below = subst (λ i. T (some_at i fs)) (sym (eqb-true k n e)) (first (some_at n fs) (all_numbered n fs) t)
      by false e below = below (lt_of_le-ne (omega arith) (eqb-false k n e))

  judged : (fs : List Field) → All (λ f. reading_of image f ≡ accepted (given zs f.row)) fs → judge_of image fs ≡ good tt
  unfolding judge_of
  judged [] h = refl
  judged (f ∷ fs) h = ap (λ j. after (fault_of f.row.field j) (judge_of image fs)) h.0 ∙ judged fs h.1

  read : (fs : List Field) → T (all_numbered (length zs) fs) → All (λ f. reading_of image f ≡ accepted (given zs f.row)) fs → ReadsBack fs image zs
  read fs t h =
      record {
        passes = judged fs h;
        same = λ old size. ext_get_or (pos 0) (numbers_of image old fs) zs (numbers-length image old fs ∙ size)
            (λ k lt. let inside : k < length zs = omega (arith, lt, numbers-length image old fs, size) in
            number_read fs h old size k inside (inr (numbered (length zs) fs k t inside)));
      }

-- each setting of a field has a code of its own
abbrev pub OwnCodes : Field → Type 0
OwnCodes f = (z : ℤ) (c : ℕ) → encode f z ≡ accepted c → decode f c ≡ accepted z

-- what was placed is read
pub reads-back : (image : List ℕ) (zs : List ℤ) (fs : List Field) → All OwnCodes fs → All CodesFit fs → T (within (length image) fs) → T (all_apart fs)
    → T (all_numbered (length zs) fs) → check_of zs fs ≡ good tt → ReadsBack fs (puts image (writes_of zs fs)) zs
reads-back image zs fs own fits inside apart all e =
    let ws = writes_of zs fs in
    let h = all_held zs (puts image ws) fs fits (puts-held image ws (subst T (all_apart_lem zs fs) apart) (all_fit zs (length image) fs fits inside)) in
    read (puts image ws) zs fs all (both fs own (check_each zs fs e) h)
  where
    both : (gs : List Field) → All OwnCodes gs → All (IsCoded zs) gs → All (λ f. held (puts image (writes_of zs fs)) f.row ≡ value_or 0 (coding_of zs f)) gs
        → All (λ f. reading_of (puts image (writes_of zs fs)) f ≡ accepted (given zs f.row)) gs
    both [] o h k = tt
    both (f ∷ gs) o h k = (ap (decode f) k.0 ∙ o.0 (given zs f.row) _ h.0, both gs o.1 h.1 k.1)

-- ---- a table of plain rows

-- the setting is the code
abbrev is_plain : Coding → Bool
is_plain plain = true
is_plain (offset b) = false
is_plain sign_magnitude = false
is_plain (rounded b n d) = false
is_plain (rounded_signed n d) = false

-- that of every field is, and its row passes a test
unfoldable pub all_plain : (Row → Bool) → List Field → Bool
all_plain P [] = true
all_plain P (f ∷ fs) = (is_plain f.coding && P f.row) && all_plain P fs

-- what holds of such rows holds of each field
pub each-plain : (P : Row → Bool) (Q : Field → Type 0) → ((r : Row) → T (P r) → Q (plain_of r)) → (fs : List Field) → T (all_plain P fs) → All Q fs
unfolding all_plain
each-plain P Q h [] t = tt
each-plain P Q h (f ∷ fs) t =
    let here = is_plain f.coding && P f.row in
    (by f.coding (first here (all_plain P fs) t), each-plain P Q h fs (second here (all_plain P fs) t))
  where
    by : (c : Coding) → T (is_plain c && P f.row) → Q (record { row = f.row; coding = c })
    by plain t = h f.row t
    by (offset b) t = absurd t
    by sign_magnitude t = absurd t
    by (rounded b n d) t = absurd t
    by (rounded_signed n d) t = absurd t

pub plain_fit : (fs : List Field) → T (all_plain row_fits fs) → All CodesFit fs
plain_fit = each-plain row_fits CodesFit (λ r t. code_fits r (row_fits_lem r t))

-- what was placed by such a table is read
pub plain-reads-back : (image : List ℕ) (zs : List ℤ) (fs : List Field) → T (all_plain row_fits fs) → T (within (length image) fs) → T (all_apart fs)
    → T (all_numbered (length zs) fs) → check_of zs fs ≡ good tt → ReadsBack fs (puts image (writes_of zs fs)) zs
plain-reads-back image zs fs t = reads-back image zs fs (each-plain row_fits OwnCodes (λ r t. read_coded r (row_fits_lem r t)) fs t) (plain_fit fs t)
