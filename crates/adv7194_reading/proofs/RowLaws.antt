-- The rows of a field, tried one after the other, are what its reading says. Assumes nothing.
use mathlib.Core.Path.{◌≡◌, refl, sym, ◌∙◌, subst}
use mathlib.Core.Logic.{◌⊎◌, inl, inr, ⊎_elim}
use mathlib.Core.Bool.{Bool, true, false, cond, ◌||◌}
use mathlib.Core.List.{List}
use Prim.Native.Nat.{ℕ, ◌^◌}
use lib.Dec.{T, eqb, ltb, eqb→eq}
use lib.IntN.{ℤ}
use borrow.Author.Tests.{lt-ltb, eq-eqb}
use Rattle.bits.proofs.FlagLaws.{either}
use Rattle.bits.proofs.FieldLaws.{field_lt}
use Rattle.refusals.specs.Refusal.{Judged, accepted, refused, refused_by}
use Rattle.refusals.specs.Verdict.{Verdict, good, refused_at, after, fault_of, fault_where}
use Rattle.refusals.proofs.VerdictLaws.{after-good}
use Rattle.field_table.specs.Rows.{refusal_outside}
use Rattle.field_table.specs.Coding.{Field, has_at, setting_at, least_magnitude, decode}
use Rattle.field_table.specs.Walk.{held, reading_of}

abbrev Found : Type 0
Found = Verdict (Unit {0})

-- ---- which rows a reading is refused by

-- by 3 or 4 only
abbrev pub small : {A : Type 0} → Judged A → Bool
small (accepted a) = true
small (refused n) = eqb n 3 || eqb n 4

-- by row n only
abbrev pub only : {A : Type 0} → ℕ → Judged A → Bool
only n (accepted a) = true
only n (refused k) = eqb k n

-- by 3, 4 or 8 only
abbrev pub usual : {A : Type 0} → Judged A → Bool
usual (accepted a) = true
usual (refused n) = eqb n 3 || (eqb n 4 || eqb n 8)

-- the reading of a field of one number is
pub reading_small : (image : List ℕ) (f : Field) → T (small (reading_of image f))
unfolding decode
reading_small image f =
    by (has_at f c (least_magnitude f c)) (setting_at f c (least_magnitude f c)) (ltb c (2 ^ f.row.width)) (eqb f.row.outside 3)
  where
    c : ℕ
    c = held image f.row

    by : (a : Bool) (z : ℤ) (b d : Bool) → T (small (cond a (accepted z) (refused (cond b (cond d 3 4) 3))))
    by true z b d = tt
    by false z false d = tt
    by false z true true = tt
    by false z true false = tt

-- and only as its row says
pub reading_only : (image : List ℕ) (f : Field) → T (only (refusal_outside f.row) (reading_of image f))
unfolding decode
reading_only image f =
    rw (lt-ltb c (2 ^ f.row.width) (field_lt f.row.bit f.row.width _))
    (by (has_at f c (least_magnitude f c)) (setting_at f c (least_magnitude f c)) (refusal_outside f.row))
  where
    c : ℕ
    c = held image f.row

    by : (a : Bool) (z : ℤ) (n : ℕ) → T (only n (cond a (accepted z) (refused n)))
    by true z n = tt
    by false z n = subst T (sym (eq-eqb n n refl)) tt

-- the numbers that these are
three_four : (n : ℕ) → T (eqb n 3 || eqb n 4) → (n ≡ 3) ⊎ (n ≡ 4)
three_four n h = ⊎_elim (λ t. inl (eqb→eq n 3 t)) (λ t. inr (eqb→eq n 4 t)) (either (eqb n 3) (eqb n 4) h)

three_four_eight : (n : ℕ) → T (eqb n 3 || (eqb n 4 || eqb n 8)) → ((n ≡ 3) ⊎ (n ≡ 4)) ⊎ (n ≡ 8)
three_four_eight n h =
    ⊎_elim (λ t. inl (inl (eqb→eq n 3 t)))
    (λ t. ⊎_elim (λ u. inl (inr (eqb→eq n 4 u))) (λ u. inr (eqb→eq n 8 u)) (either (eqb n 4) (eqb n 8) t)) (either (eqb n 3) (eqb n 4 || eqb n 8) h)

-- ---- rows one after the other

-- row n at a field where its reading is refused so, before others
abbrev pub tried : {A : Type 0} → ℕ → ℕ → Judged A → Found → Found
tried n f j v = cond (refused_by n j || false) (refused_at n f) v

-- the rows of a field of one number, a test of another row among them
pub alone-with : (f k : ℕ) (b : Bool) (j : Judged ℤ) → T (small j)
    → tried 3 f j (tried 4 f j (cond b (refused_at k f) (tried 8 f j (good tt)))) ≡ after (fault_of f j) (fault_where b k f)
alone-with f k b (accepted z) h = refl
alone-with f k b (refused n) h = ⊎_elim (λ e. rw e) (λ e. rw e) (three_four n h)

-- none among them
abbrev pub alone_rows : ℕ → Judged ℤ → Found
alone_rows f j = tried 3 f j (tried 4 f j (tried 8 f j (good tt)))

pub alone : (f : ℕ) (j : Judged ℤ) → T (small j) → alone_rows f j ≡ fault_of f j
alone f j h = alone-with f 5 false j h ∙ after-good (fault_of f j)

-- the rows of a field of one number that has must-be-zero bits
abbrev pub tried_two : ℕ → ℕ → Judged ℤ → Judged ℤ → Found → Found
tried_two n f j k v = cond (refused_by n j || (refused_by n k || false)) (refused_at n f) v

pub with-zero-bits : (f : ℕ) (j k : Judged ℤ) → T (only 3 j) → T (only 4 k)
    → tried_two 3 f j k (tried_two 4 f j k (tried_two 8 f j k (good tt))) ≡ after (fault_of f j) (fault_of f k)
with-zero-bits f (accepted y) (accepted z) p q = refl
with-zero-bits f (accepted y) (refused n) p q = let e = eqb→eq n 4 q in rw e
with-zero-bits f (refused m) (accepted z) p q = let d = eqb→eq m 3 p in rw d
with-zero-bits f (refused m) (refused n) p q = let d = eqb→eq m 3 p in rw d

-- the rows of a block
pub block_rows : {A : Type 0} (f : ℕ) (j : Judged A) → T (usual j) → tried 3 f j (tried 4 f j (tried 8 f j (good tt))) ≡ fault_of f j
block_rows f (accepted z) h = refl
block_rows f (refused n) h = ⊎_elim (λ w. ⊎_elim (λ e. rw e) (λ e. rw e) w) (λ e. rw e) (three_four_eight n h)
