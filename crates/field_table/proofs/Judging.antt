-- What the definitions answer inside a field's range and outside it, whatever its coding. Assumes nothing.
use mathlib.Core.Path.{◌≡◌, refl, ap, subst}
use mathlib.Core.Bool.{Bool, true, false, cond, ◌||◌}
use Prim.Native.Nat.{ℕ, zero, suc, ◌^◌, ◌<◌}
use native.Mathlib.Omega.{arith}
use lib.Dec.{T, ltb, eqb, eqb→eq}
use lib.IntN.{ℤ, pos, negsuc, neg_ℤ}
use lib.Pow.{pow_pos}
use lib.Signed.{lt_z}
use borrow.Author.Tests.{ltb-false}
use Rattle.refusals.specs.Refusal.{Judged, accepted, refused, value_or}
use Rattle.rounding.proofs.Range.{Between, everywhere, over, eq_z, eq_z→eq}
use Rattle.field_table.specs.Coding.{Field, outside, is_code, encode, code_of}

-- a setting outside, which is no code itself, is refusal 3
pub outside-refused : (f : Field) (s : ℤ) → outside f.row s ≡ true → is_code f.coding f.row.width s ≡ false → refused 3 ≡ encode f s
unfolding encode
outside-refused f s e n = rw (e, n)

-- a setting inside has its code
pub inside_coded : (f : Field) (s : ℤ) (c : ℕ) → outside f.row s ≡ false → c ≡ code_of f s → accepted c ≡ encode f s
unfolding encode
inside_coded f s c e h = rw (e, h)

-- codes fit their bits where those of settings in the range do: a refusal stands for 0
pub fits-inside : (f : Field) → ((z : ℤ) → outside f.row z ≡ false → code_of f z < 2 ^ f.row.width) → (z : ℤ) → value_or 0 (encode f z) < 2 ^ f.row.width
unfolding encode
fits-inside f h z = by (outside f.row z) _ refl
  where
    by : (b : Bool) (n : ℕ) → outside f.row z ≡ b → value_or 0 (cond b (refused n) (accepted (code_of f z))) < 2 ^ f.row.width
    by true n e = pow_pos f.row.width
    by false n e = h z e

-- both tests failed
pub neither_l : (a b : Bool) → (a || b) ≡ false → a ≡ false
neither_l true b e = absurd (subst T e tt)
neither_l false b e = refl

pub neither_r : (a b : Bool) → (a || b) ≡ false → b ≡ false
neither_r true b e = absurd (subst T e tt)
neither_r false b e = e

-- the range that the test leaves
between : (lo hi : ℕ) (z : ℤ) → (lt_z z (neg_ℤ (pos lo)) || lt_z (pos hi) z) ≡ false → Between lo hi z
between lo hi (pos n) e = ltb-false hi n (neither_r (lt_z (pos n) (neg_ℤ (pos lo))) (ltb hi n) e)
between zero hi (negsuc n) e = absurd (subst T e tt)
between (suc lo) hi (negsuc n) e = omega (arith, ltb-false lo n (neither_l (ltb lo n) false e))

-- a test that is computed at each setting of a range holds of every setting that the range test leaves
pub in_range : (lo hi : ℕ) (P : ℤ → Bool) → T (everywhere lo hi P) → (z : ℤ) → (lt_z z (neg_ℤ (pos lo)) || lt_z (pos hi) z) ≡ false → T (P z)
in_range lo hi P t z e = over lo hi P t z (between lo hi z e)

-- ---- tests on answers, for computing over a range

-- whether an answer is refusal n
abbrev pub is_refused : {A : Type 0} → ℕ → Judged A → Bool
is_refused n (accepted a) = false
is_refused n (refused k) = eqb n k

pub is_refused→ : {A : Type 0} (n : ℕ) (j : Judged A) → T (is_refused n j) → refused n ≡ j
is_refused→ n (accepted a) t = absurd t
is_refused→ n (refused k) t = ap refused (eqb→eq n k t)

-- whether an answer is the setting s
abbrev pub is_setting : ℤ → Judged ℤ → Bool
is_setting s (accepted z) = eq_z s z
is_setting s (refused k) = false

pub is_setting→ : (s : ℤ) (j : Judged ℤ) → T (is_setting s j) → accepted s ≡ j
is_setting→ s (accepted z) t = ap accepted (eq_z→eq s z t)
is_setting→ s (refused k) t = absurd t
