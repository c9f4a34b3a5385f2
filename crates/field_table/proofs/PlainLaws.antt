-- What the definitions answer for a row whose setting is its code. Assumes nothing.
use mathlib.Core.Path.{◌≡◌, refl, sym, ap, ◌∙◌, subst}
use mathlib.Core.Bool.{Bool, true, false, cond, ◌||◌, ◌&&◌}
use mathlib.Core.Logic.{◌⊎◌, inl}
use Prim.Native.Nat.{ℕ, ◌+◌, ◌^◌, ◌≤◌, ◌<◌}
use native.Mathlib.Omega.{arith}
use lib.Dec.{T, ltb, leb→le, ltb→lt}
use lib.IntN.{ℤ, pos, negsuc, nat_abs}
use lib.Pow.{pow_mono}
use lib.Signed.{non_neg, pos-nat_abs}
use borrow.Author.Tests.{ltb-false, lt-ltb}
use Rattle.refusals.specs.Refusal.{accepted, refused, value_or}
use Rattle.bits.proofs.FlagLaws.{first, second}
use Rattle.field_table.specs.declared.row.Row.{Row}
use Rattle.field_table.specs.Rows.{refusal_outside}
use Rattle.field_table.specs.Coding.{plain, plain_of, code_by, outside, is_code, encode, has, decode}
use Rattle.field_table.specs.Walk.{bits_fit, row_fits}
use Rattle.field_table.proofs.Judging.{fits-inside, inside_coded, neither_r}
use Rattle.field_table.proofs.Decoding.{decode-found, decode-none, has-inside, has_code, code-has, no_code}

-- a row that fits: its bits lie within a register, and its settings, from the lowest to the highest, are codes of them
pub record Fits (r : Row) : Type 0 where
  pub lowest : ℕ
  pub highest : ℕ
  pub low : r.low ≡ pos lowest
  pub high : r.high ≡ pos highest
  pub bits : r.bit + r.width ≤ 8
  pub codes : highest < 2 ^ r.width

pub row_fits_lem : (r : Row) → T (row_fits r) → Fits r
row_fits_lem r t =
    let top = ltb (nat_abs r.high) (2 ^ r.width) in
    let rest = non_neg r.high && top in
    let signs = second (bits_fit r) (non_neg r.low && rest) t in
    let upper = second (non_neg r.low) rest signs in
    record {
      lowest = nat_abs r.low;
      highest = nat_abs r.high;
      low = sym (pos-nat_abs r.low (first (non_neg r.low) rest signs));
      high = sym (pos-nat_abs r.high (first (non_neg r.high) top upper));
      bits = leb→le (r.bit + r.width) 8 (first (bits_fit r) (non_neg r.low && rest) t);
      codes = ltb→lt (nat_abs r.high) (2 ^ r.width) (second (non_neg r.high) top upper);
    }

-- ---- the refusal of a number that is no setting

pub refused-code : (r : Row) (n : ℕ) → n < 2 ^ r.width → refusal_outside r ≡ cond (is_code plain r.width (pos n)) (refusal_outside r) 3
refused-code r n h = rw (lt-ltb n (2 ^ r.width) h)

-- ---- settings

-- a setting outside the range
pub code_out : (r : Row) (z : ℤ) (k : ℕ) → outside r z ≡ true → k ≡ cond (is_code plain r.width z) (refusal_outside r) 3 → refused k ≡ encode (plain_of r) z
unfolding encode
code_out r z k e h = rw (e, h)

-- one inside it is its code
pub code_in : (r : Row) (z : ℤ) → outside r z ≡ false → accepted (nat_abs z) ≡ encode (plain_of r) z
unfolding code_by
code_in r z e = inside_coded (plain_of r) z (nat_abs z) e refl

module _ (r : Row) (fits : Fits r) where
  -- no setting is negative
  never : (n : ℕ) → outside r (negsuc n) ≡ false → ⊥
  never n o = subst T (rw fits.low at o) tt

  -- a setting is a code of the row's bits
  pub small : (z : ℤ) → outside r z ≡ false → T (non_neg z) × (nat_abs z < 2 ^ r.width)
  small (pos n) o =
      let t : (ltb n fits.lowest || ltb fits.highest n) ≡ false = rw (fits.low, fits.high) at o in
      (tt, omega (arith, fits.codes, ltb-false fits.highest n (neither_r (ltb n fits.lowest) (ltb fits.highest n) t)))
  small (negsuc n) o = absurd (never n o)

  -- which are those of a byte
  pub byte : 2 ^ r.width ≤ 2 ^ 8
  byte = pow_mono {j = 8} (omega (arith, fits.bits))

  -- so codes fit their bits
  pub code_fits : (z : ℤ) → value_or 0 (encode (plain_of r) z) < 2 ^ r.width
  unfolding code_by
  code_fits = fits-inside (plain_of r) (λ z o. (small z o).1)

  -- ---- codes

  -- a code in the range is its own setting
  pub read_in : (c : ℕ) → outside r (pos c) ≡ false → accepted (pos c) ≡ decode (plain_of r) c
  unfolding code_by
  read_in c o = decode-found (plain_of r) c (pos c) (record { coded = code-has (plain_of r) c (pos c) o refl; only = only })
    where
      only : (z : ℤ) → has (plain_of r) c z ≡ true → (z ≡ pos c) ⊎ (c < nat_abs z)
      only (pos n) e = inl (ap pos (has_code (plain_of r) c (pos n) e))
      only (negsuc n) e = absurd (never n (has-inside (plain_of r) c (negsuc n) e))

  -- one outside it has none
  pub read_out : (c k : ℕ) → outside r (pos c) ≡ true → k ≡ cond (is_code plain r.width (pos c)) (refusal_outside r) 3 → refused k ≡ decode (plain_of r) c
  unfolding code_by
  read_out c k o e = ap refused e ∙ decode-none (plain_of r) c none
    where
      none : (z : ℤ) → has (plain_of r) c z ≡ false
      none (pos n) = no_code (plain_of r) c (pos n) (λ i q. subst T (sym o ∙ ap (λ (m : ℕ). outside r (pos m)) (sym q) ∙ i) tt)
      none (negsuc n) = no_code (plain_of r) c (negsuc n) (λ i q. never n i)

  -- a setting that was coded is read back
  pub read_coded : (z : ℤ) (c : ℕ) → encode (plain_of r) z ≡ accepted c → decode (plain_of r) c ≡ accepted z
  read_coded z c e = by (outside r z) refl
    where
      by : (b : Bool) → outside r z ≡ b → decode (plain_of r) c ≡ accepted z
      by true o = let x : ◌≡◌ {A = ℕ} 0 1 = cc (code_out r z _ o refl) in absurd (omega arith)
      by false o =
          let q : nat_abs z ≡ c = cc (code_in r z o) in
          let p : pos c ≡ z = ap pos (sym q) ∙ pos-nat_abs z (small z o).0 in
          sym (read_in c (ap (outside r) p ∙ o)) ∙ ap accepted p
