-- Writes whose values fit their bits: bytes stay bytes, and what no write is to stays. Assumes nothing.
use mathlib.Core.Path.{◌≡◌, refl, ◌∙◌, subst}
use mathlib.Core.Logic.{inl}
use mathlib.Core.Bool.{Bool, true, false, cond, not, ◌&&◌}
use mathlib.Core.List.{List, [], ◌∷◌, ◌++◌}
use Prim.Native.Nat.{ℕ, ◌+◌, ◌-◌, ◌^◌, ◌≤◌, ◌<◌}
use native.Mathlib.Omega.{arith}
use lib.Dec.{T, eqb, ltb, leb→le}
use lib.IntN.{ℤ}
use lib.ListN.{length, get_or, set, length-set, get_or-eq_default}
use lib.Seq.{get_or-set_same, get_or-set_other}
use borrow.Author.Tests.{eqb-true, eqb-false, ltb-true, ltb-false}
use Rattle.bits.specs.Fields.{bit, with_field}
use Rattle.bits.proofs.FieldLaws.{with-lt}
use Rattle.bits.proofs.FlagLaws.{first, second}
use Rattle.field_table.specs.Coding.{Field}
use Rattle.field_table.specs.Writes.{Write, put, puts, sets, bit_after}
use Rattle.field_table.specs.Walk.{given, writes_of, bits_fit}
use Rattle.field_table.proofs.WriteLaws.{AllFit}
use Rattle.field_table.proofs.RoundTripLaws.{All, CodesFit}
use Rattle.bits.specs.Lists.{Every}

-- ---- writes

-- a write is to a register that passes a test, its bits are bits of a byte, and its value fits them
pub record FitsIn (P : ℕ → Bool) (w : Write) : Type 0 where
  pub passes : T (P w.register)
  pub inside : w.place + w.width ≤ 8
  pub fits : w.value < 2 ^ w.width

-- what holds of each of some writes and of each of others
pub each_append : (Q : Write → Type 0) (vs ws : List Write) → Every Q vs → Every Q ws → Every Q (vs ++ ws)
each_append Q [] ws p q = q
each_append Q (v ∷ vs) ws p q = (p.0, each_append Q vs ws p.1 q)

-- the same as the laws of writes have it, where the registers that pass are the first n at most
pub all_fit : (P : ℕ → Bool) (n : ℕ) → ((r : ℕ) → T (P r) → r < n) → (ws : List Write) → Every (FitsIn P) ws → AllFit n ws
all_fit P n h [] f = tt
all_fit P n h (w ∷ ws) f = ((h w.register f.0.passes, inl f.0.fits), all_fit P n h ws f.1)

-- each field's register passes a test, and its bits are bits of a byte
unfoldable pub rows_in : (ℕ → Bool) → List Field → Bool
rows_in P [] = true
rows_in P (f ∷ fs) = (P f.row.register && bits_fit f.row) && rows_in P fs

-- so do the writes of fields whose codes fit
pub fields_fit : (P : ℕ → Bool) (zs : List ℤ) (fs : List Field) → T (rows_in P fs) → All CodesFit fs → Every (FitsIn P) (writes_of zs fs)
unfolding rows_in writes_of
fields_fit P zs [] t k = tt
fields_fit P zs (f ∷ fs) t k =
    let passes = P f.row.register in
    let here = first (passes && bits_fit f.row) (rows_in P fs) t in (
      record {
        passes = first passes (bits_fit f.row) here;
        inside = leb→le (f.row.bit + f.row.width) 8 (second passes (bits_fit f.row) here);
        fits = k.0 (given zs f.row);
      },
      fields_fit P zs fs (second (passes && bits_fit f.row) (rows_in P fs) t) k.1,
    )

-- ---- an image after them

-- an image holds bytes
abbrev pub Bytes : List ℕ → Type 0
Bytes l = (i : ℕ) → get_or l i 0 < 2 ^ 8

-- bytes with one more byte among them
pub set-bytes : (l : List ℕ) (r v : ℕ) → Bytes l → v < 2 ^ 8 → Bytes (set l r v)
set-bytes l r v b h i = split (eqb i r) refl (ltb r (length l)) refl
  where
    split : (x : Bool) → eqb i r ≡ x → (y : Bool) → ltb r (length l) ≡ y → get_or (set l r v) i 0 < 2 ^ 8
    split false e y f = rw (get_or-set_other l r i v 0 (eqb-false i r e)) (b i)
    split true e true f = rw (eqb-true i r e) (rw (get_or-set_same l r v 0 (ltb-true r (length l) f)) h)
    split true e false f =
        let n = length-set l r v in
        let d = ltb-false r (length l) f in
        let p = eqb-true i r e in
        let q : length (set l r v) ≤ i = omega arith in
        rw (get_or-eq_default (set l r v) 0 q) (omega arith)

-- bytes after such writes are bytes
pub puts-bytes : (P : ℕ → Bool) (ws : List Write) (l : List ℕ) → Every (FitsIn P) ws → Bytes l → Bytes (puts l ws)
unfolding puts
puts-bytes P [] l f b = b
puts-bytes P (w ∷ ws) l f b =
    puts-bytes P ws (put l w) f.1
    (set-bytes l w.register (with_field w.place w.width (get_or l w.register 0) w.value) b
    (with-lt 8 w.place w.width (get_or l w.register 0) w.value (b w.register) f.0.inside f.0.fits))

-- a register that doesn't pass the test stays
pub puts_stay : (P : ℕ → Bool) (ws : List Write) (l : List ℕ) (r : ℕ) → Every (FitsIn P) ws → P r ≡ false → get_or (puts l ws) r 0 ≡ get_or l r 0
unfolding puts
puts_stay P [] l r f e = refl
puts_stay P (w ∷ ws) l r f e =
    puts_stay P ws (put l w) r f.1 e
    ∙ get_or-set_other l w.register r _ 0 (λ p. subst T (subst (λ (k : ℕ). P k ≡ false) p e) f.0.passes)

-- a bit that no write sets is as found
pub untouched : (found : ℕ) (ws : List Write) (r i : ℕ) → Every (λ w. T (not (sets w r i))) ws → bit_after found ws r i ≡ found
unfolding bit_after
untouched found [] r i h = refl
untouched found (w ∷ ws) r i h = by (sets w r i) h.0 (untouched found ws r i h.1)
  where
    by : (b : Bool) → T (not b) → bit_after found ws r i ≡ found → bit_after (cond b (bit (i - w.place) w.value) found) ws r i ≡ found
    by true t e = absurd t
    by false t e = e
