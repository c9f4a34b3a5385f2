-- The rows of a field, in their order: the first that holds is the fault of the field's coding, then its conflicts. Assumes nothing.
use mathlib.Core.Path.{◌≡◌, refl, sym, ap, ◌∙◌, subst}
use mathlib.Core.Bool.{Bool, true, false, cond, ◌||◌}
use Prim.Native.Nat.{ℕ}
use lib.Dec.{T, eqb, eqb→eq}
use lib.IntN.{ℤ}
use Rattle.refusals.specs.Refusal.{Judged, accepted, refused, refused_by}
use Rattle.refusals.specs.Verdict.{Verdict, good, refused_at, after, fault_of, fault_where}
use Rattle.refusals.proofs.VerdictLaws.{after-good, row_before}
use Rattle.field_table.specs.Rows.{refusal_outside}
use Rattle.field_table.specs.Coding.{Field, outside, is_code, code_of, encode}

abbrev pub Found : Type 0
Found = Verdict (Unit {0})

-- ---- a coding refuses by 3 or 4 only

abbrev pub soundb : {A : Type 0} → Judged A → Bool
soundb (accepted a) = true
soundb (refused n) = eqb n 3 || eqb n 4

pub record Sound {A : Type 0} (j : Judged A) : Type 0 where
  pub sound : T (soundb j)

-- a choice between two that do
pub sound-cond : {A : Type 0} (b : Bool) (j k : Judged A) → Sound j → Sound k → Sound (cond b j k)
sound-cond true j k p q = p
sound-cond false j k p q = q

-- a field of one number
three_or_four : (b c : Bool) → Sound {A = ℕ} (refused (cond b (cond c 3 4) 3))
three_or_four true true = record { sound = tt }
three_or_four true false = record { sound = tt }
three_or_four false c = record { sound = tt }

pub encode-sound : (f : Field) (z : ℤ) → Sound (encode f z)
unfolding encode
encode-sound f z =
    sound-cond (outside f.row z) (refused (cond (is_code f.coding f.row.width z) (refusal_outside f.row) 3)) (accepted (code_of f z))
    (three_or_four (is_code f.coding f.row.width z) (eqb f.row.outside 3))
    (record { sound = tt })

-- ---- rows 3, 4 and 8 of a coding, and the conflicts of rows 5 and 6 among them

pub coding_rows : {A : Type 0} (f : ℕ) (j : Judged A) (a b : Bool) → Sound j
    → cond (refused_by 3 j || false) (refused_at 3 f) (cond (refused_by 4 j || false) (refused_at 4 f)
    (cond a (refused_at 5 f) (cond b (refused_at 6 f) (cond (refused_by 8 j || false) (refused_at 8 f) (good (tt {0}))))))
    ≡ after (fault_of f j) (after (fault_where a 5 f) (fault_where b 6 f))
coding_rows f (accepted cs) a b h = row_before a 5 f (fault_where b 6 f)
coding_rows f (refused n) a b h = by (eqb n 3) (eqb n 4) (eqb n 8) refl refl h.sound
  where
    by : (x y z : Bool) → eqb n 3 ≡ x → eqb n 4 ≡ y → T (x || y)
        → cond (x || false) (refused_at 3 f) (cond (y || false) (refused_at 4 f)
        (cond a (refused_at 5 f) (cond b (refused_at 6 f) (cond (z || false) (refused_at 8 f) (good (tt {0}))))))
        ≡ refused_at n f
    by true y z p q t = ap (λ (k : ℕ). refused_at k f) (sym (eqb→eq n 3 (subst T (sym p) tt)))
    by false true z p q t = ap (λ (k : ℕ). refused_at k f) (sym (eqb→eq n 4 (subst T (sym q) tt)))
    by false false z p q t = absurd t

-- a field that no other one is set against
pub alone_rows_lem : {A : Type 0} (f : ℕ) (j : Judged A) → Sound j
    → cond (refused_by 3 j || false) (refused_at 3 f)
    (cond (refused_by 4 j || false) (refused_at 4 f) (cond (refused_by 8 j || false) (refused_at 8 f) (good (tt {0}))))
    ≡ fault_of f j
alone_rows_lem f j h = coding_rows f j false false h ∙ after-good (fault_of f j)

-- ---- a field of one number

-- with must-be-zero bits, which have no fault
pub zero_rows : (f : ℕ) (j k : Judged ℕ) → Sound j → k ≡ accepted 0
    → cond (refused_by 3 j || (refused_by 3 k || false)) (refused_at 3 f)
    (cond (refused_by 4 j || (refused_by 4 k || false)) (refused_at 4 f)
    (cond (refused_by 8 j || (refused_by 8 k || false)) (refused_at 8 f) (good (tt {0}))))
    ≡ fault_of f j
zero_rows f j k h e = rw e (alone_rows_lem f j h)

-- with a conflict of row 5, or of row 6
pub square_rows : (f : ℕ) (j : Judged ℕ) (a : Bool) → Sound j
    → cond (refused_by 3 j || false) (refused_at 3 f) (cond (refused_by 4 j || false) (refused_at 4 f)
    (cond a (refused_at 5 f) (cond (refused_by 8 j || false) (refused_at 8 f) (good (tt {0})))))
    ≡ after (fault_of f j) (fault_where a 5 f)
square_rows f j a h = coding_rows f j a false h ∙ ap (after (fault_of f j)) (after-good (fault_where a 5 f))

pub pedestal_rows : (f : ℕ) (j : Judged ℕ) (b : Bool) → Sound j
    → cond (refused_by 3 j || false) (refused_at 3 f) (cond (refused_by 4 j || false) (refused_at 4 f)
    (cond b (refused_at 6 f) (cond (refused_by 8 j || false) (refused_at 8 f) (good (tt {0})))))
    ≡ after (fault_of f j) (fault_where b 6 f)
pedestal_rows f j b h = coding_rows f j false b h
