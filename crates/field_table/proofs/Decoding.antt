-- The search for the setting nearest zero finds the setting that has the code and to which none is nearer. Assumes nothing.
use mathlib.Core.Path.{◌≡◌, refl, sym, ap, ◌∙◌, subst}
use mathlib.Core.Bool.{Bool, true, false, ◌||◌, cond}
use mathlib.Core.Logic.{◌⊎◌, inl, inr, ⊎_elim}
use Prim.Native.Nat.{ℕ, zero, suc, ◌+◌, ◌^◌, ◌≤◌, ◌<◌, max}
use native.Mathlib.Nat.{le-max_left, le-max_right, le_trans}
use native.Mathlib.Omega.{arith}
use lib.Dec.{T, eqb, ltb, eqb→eq}
use lib.IntN.{ℤ, pos, negsuc, neg_ℤ, nat_abs}
use lib.Signed.{lt_z}
use borrow.Author.Tests.{ltb-false, eqb-true, eq-eqb}
use Rattle.refusals.specs.Refusal.{accepted, refused}
use Rattle.rounding.proofs.First.{first-is, first_found, flag}
use Rattle.rounding.proofs.Range.{both_l, both_r}
use Rattle.field_table.specs.Rows.{refusal_outside}
use Rattle.field_table.specs.Coding.{Field, outside, code_of, encode, has, has_at, setting_at, least_magnitude, decode}
use Rattle.field_table.specs.RoundTrip.{only_zero}
use Rattle.field_table.proofs.Judging.{inside_coded, neither_l, neither_r}
use Rattle.field_table.specs.declared.row.Row.{Row}

-- the largest magnitude of a setting
abbrev span : Row → ℕ
span r = max (nat_abs r.low) (nat_abs r.high)

-- s has the code, and every other setting that has it is further from zero
pub record NearestZero (f : Field) (c : ℕ) (s : ℤ) : Type 0 where
  pub coded : has f c s ≡ true
  pub only : (z : ℤ) → has f c z ≡ true → (z ≡ s) ⊎ (nat_abs s < nat_abs z)

nat_abs_neg : (m : ℕ) → nat_abs (neg_ℤ (pos m)) ≡ m
nat_abs_neg zero = refl
nat_abs_neg (suc m) = refl

or_true_r : (a : Bool) → (a || true) ≡ true
or_true_r true = refl
or_true_r false = refl

-- a setting that has a code is in the range
pub has-inside : (f : Field) (c : ℕ) (s : ℤ) → has f c s ≡ true → outside f.row s ≡ false
has-inside f c s h = go (outside f.row s) h
  where
    go : (o : Bool) → cond o false (eqb (code_of f s) c) ≡ true → o ≡ false
    go true e = absurd (subst T (sym e) tt)
    go false e = refl

-- and the code is its code
pub has_code : (f : Field) (c : ℕ) (s : ℤ) → has f c s ≡ true → code_of f s ≡ c
has_code f c s h = eqb-true _ _ (go (outside f.row s) (eqb (code_of f s) c) h)
  where
    go : (o e : Bool) → cond o false e ≡ true → e ≡ true
    go true e h = absurd (subst T (sym h) tt)
    go false e h = h

-- a setting in the range has its code
pub code-has : (f : Field) (c : ℕ) (s : ℤ) → outside f.row s ≡ false → code_of f s ≡ c → has f c s ≡ true
code-has f c s o e = rw (o, e) (eq-eqb c c refl)

-- a code that is no setting's code
pub no_code : (f : Field) (c : ℕ) (s : ℤ) → (outside f.row s ≡ false → code_of f s ≡ c → ⊥) → has f c s ≡ false
no_code f c s none = go (has f c s) (λ h. none (has-inside f c s h) (has_code f c s h))
  where
    go : (b : Bool) → (b ≡ true → ⊥) → b ≡ false
    go true h = absurd (h refl)
    go false h = refl

-- its magnitude is within the span
within_span : (low high s : ℤ) → (lt_z s low || lt_z high s) ≡ false → nat_abs s ≤ max (nat_abs low) (nat_abs high)
within_span low (pos h) (pos n) e = le_trans (ltb-false h n (neither_r (lt_z (pos n) low) (ltb h n) e)) (le-max_right (nat_abs low) h)
within_span low (negsuc h) (pos n) e = absurd (subst T (neither_r (lt_z (pos n) low) true e) tt)
within_span (pos l) high (negsuc n) e = absurd (subst T e tt)
within_span (negsuc l) high (negsuc n) e =
    le_trans (omega (arith, ltb-false l n (neither_l (ltb l n) (lt_z high (negsuc n)) e))) (le-max_left (suc l) (nat_abs high))

module _ (f : Field) (c : ℕ) where
  -- at the setting's magnitude the search stops
  at : (s : ℤ) → has f c s ≡ true → has_at f c (nat_abs s) ≡ true
  at (pos n) h = rw h
  at (negsuc n) h = rw h (or_true_r (has f c (pos (suc n))))

  -- it finds that setting there
  found : (s : ℤ) → NearestZero f c s → setting_at f c (nat_abs s) ≡ s
  found (pos n) r = rw r.coded
  found (negsuc n) r = go (flag (has f c (pos (suc n))))
    where
      go : (has f c (pos (suc n)) ≡ true) ⊎ (has f c (pos (suc n)) ≡ false) → setting_at f c (suc n) ≡ negsuc n
      go (inl e) =
          ⊎_elim (λ (q : pos (suc n) ≡ negsuc n). let z : ◌≡◌ {A = ℕ} 0 1 = cc in absurd (omega arith)) (λ (l : suc n < suc n). absurd (omega arith))
          (r.only (pos (suc n)) e)
      go (inr e) = rw e

  -- and at no smaller magnitude
  before : (s : ℤ) → NearestZero f c s → (j : ℕ) → j < nat_abs s → has_at f c j ≡ false
  before s r j l = go (has f c (pos j)) (has f c (neg_ℤ (pos j))) (λ e. none (pos j) refl e) (λ e. none (neg_ℤ (pos j)) (nat_abs_neg j) e)
    where
      none : (z : ℤ) → nat_abs z ≡ j → has f c z ≡ true → ⊥
      none z a e = ⊎_elim (λ (q : z ≡ s). omega (arith, ap nat_abs q)) (λ (b : nat_abs s < nat_abs z). omega arith) (r.only z e)

      go : (a b : Bool) → (a ≡ true → ⊥) → (b ≡ true → ⊥) → (a || b) ≡ false
      go true b p q = absurd (p refl)
      go false true p q = absurd (q refl)
      go false false p q = refl

-- the setting nearest zero is what the code is read as
pub decode-found : (f : Field) (c : ℕ) (s : ℤ) → NearestZero f c s → accepted s ≡ decode f c
unfolding decode
decode-found f c s r =
    let m : nat_abs s ≤ suc (span f.row) = omega (arith, within_span f.row.low f.row.high s (has-inside f c s r.coded)) in
    let e : least_magnitude f c ≡ nat_abs s = first-is (has_at f c) (suc (span f.row)) (nat_abs s) m (at f c s r.coded) (before f c s r) in
    rw (e, at f c s r.coded, found f c s r)

-- a code that no setting has is refused
pub decode-none : (f : Field) (c : ℕ) → ((z : ℤ) → has f c z ≡ false) → refused (cond (ltb c (2 ^ f.row.width)) (refusal_outside f.row) 3) ≡ decode f c
unfolding decode
decode-none f c none =
    rw (none (pos (least_magnitude f c)), none (neg_ℤ (pos (least_magnitude f c))))

-- by 3 where the row says so
pub decode-outside : (f : Field) (c : ℕ) → f.row.outside ≡ 3 → ((z : ℤ) → has f c z ≡ false) → refused 3 ≡ decode f c
decode-outside f c e none = ap refused (same (ltb c (2 ^ f.row.width))) ∙ decode-none f c none
  where
    same : (b : Bool) → ◌≡◌ {A = ℕ} 3 (cond b (refusal_outside f.row) 3)
    same true = rw e
    same false = refl

-- ---- what is read has the code

-- the search stops at a setting that has the code
at_setting : (f : Field) (c m : ℕ) → has_at f c m ≡ true → has f c (setting_at f c m) ≡ true
at_setting f c m e = by (has f c (pos m)) refl e
  where
    by : (b : Bool) → has f c (pos m) ≡ b → (b || has f c (neg_ℤ (pos m))) ≡ true → has f c (cond b (pos m) (neg_ℤ (pos m))) ≡ true
    by true p e = p
    by false p e = e

-- so a setting that was read has the code it was read from
read_has : (f : Field) (c : ℕ) (s : ℤ) → decode f c ≡ accepted s → has f c s ≡ true
unfolding decode
read_has f c s e = by (has_at f c (least_magnitude f c)) refl e
  where
    by : (b : Bool) → has_at f c (least_magnitude f c) ≡ b
        → cond b (accepted (setting_at f c (least_magnitude f c))) (refused (cond (ltb c (2 ^ f.row.width)) (refusal_outside f.row) 3)) ≡ accepted s
        → has f c s ≡ true
    by true h p = let q : setting_at f c (least_magnitude f c) ≡ s = cc in subst (λ (z : ℤ). has f c z ≡ true) q (at_setting f c (least_magnitude f c) h)
    by false h p = let x : ◌≡◌ {A = ℕ} 0 1 = cc in absurd (omega arith)

pub decode_coded : (f : Field) (c : ℕ) (s : ℤ) → decode f c ≡ accepted s → encode f s ≡ accepted c
decode_coded f c s e = let h = read_has f c s e in sym (inside_coded f s c (has-inside f c s h) (sym (has_code f c s h)))

-- ---- what is coded is read

-- the search stops where some setting has the code
has-found : (f : Field) (c : ℕ) (z : ℤ) → has f c z ≡ true → has_at f c (least_magnitude f c) ≡ true
has-found f c z h =
    let search = first_found (has_at f c) (suc (span f.row)) in
    let small = within_span f.row.low f.row.high z (has-inside f c z h) in
    ⊎_elim
    (λ (e : least_magnitude f c ≡ 0 + suc (span f.row)).
    let none : has_at f c (nat_abs z) ≡ false = search.least (nat_abs z) (omega arith) (omega arith) in
    absurd (subst T (sym (at f c z h) ∙ none) tt))
    (λ (e : has_at f c (least_magnitude f c) ≡ true). e)
    search.passes

-- a code in a coding is its setting's
coded_has : (f : Field) (c : ℕ) (z : ℤ) → encode f z ≡ accepted c → has f c z ≡ true
unfolding encode
coded_has f c z e = by (outside f.row z) _ refl e
  where
    by : (b : Bool) (n : ℕ) → outside f.row z ≡ b → cond b (refused n) (accepted (code_of f z)) ≡ accepted c → has f c z ≡ true
    by true n o p = let x : ◌≡◌ {A = ℕ} 0 1 = cc in absurd (omega arith)
    by false n o p = let q : code_of f z ≡ c = cc in code-has f c z o q

-- so the code of a setting is read, as that or another setting
pub coded_read : (f : Field) (c : ℕ) (z : ℤ) → encode f z ≡ accepted c → (s : ℤ) × (decode f c ≡ accepted s)
unfolding decode
coded_read f c z e =
    (setting_at f c (least_magnitude f c), rw (has-found f c z (coded_has f c z e)))

-- ---- must-be-zero bits

-- 0 is the only setting of a row that has no other
no_sign : (z : ℤ) → T (eqb (nat_abs z) 0) → z ≡ pos 0
no_sign (pos n) t = ap pos (eqb→eq n 0 t)
no_sign (negsuc n) t = absurd (omega (arith, eqb→eq (suc n) 0 t))

pub only_zero_lem : (f : Field) (c : ℕ) (s : ℤ) → decode f c ≡ accepted s → T (only_zero f.row) → s ≡ pos 0
only_zero_lem f c s e t = by s (rw (low, high) at (has-inside f c s (read_has f c s e)))
  where
    low : f.row.low ≡ pos 0
    low = no_sign f.row.low (both_l (eqb (nat_abs f.row.low) 0) (eqb (nat_abs f.row.high) 0) t)

    high : f.row.high ≡ pos 0
    high = no_sign f.row.high (both_r (eqb (nat_abs f.row.low) 0) (eqb (nat_abs f.row.high) 0) t)

    by : (z : ℤ) → (lt_z z (pos 0) || lt_z (pos 0) z) ≡ false → z ≡ pos 0
    by (pos n) o = let h : n ≡ 0 = omega (arith, ltb-false 0 n (neither_r (ltb n 0) (ltb 0 n) o)) in ap pos h
    by (negsuc n) o = absurd (subst T o tt)
