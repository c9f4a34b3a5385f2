-- The masks of a table whose fields are apart, bit by bit: after its writes the bits of rows that have no setting but 0 are zero, and those of none are as
-- found. Assumes nothing.
use mathlib.Core.Path.{◌≡◌, refl, sym, ap, ap₂, ◌∙◌, subst}
use mathlib.Core.Logic.{⊎_elim}
use mathlib.Core.Bool.{Bool, true, false, cond, not, ◌&&◌, ◌||◌, false≢true}
use mathlib.Core.List.{List, [], ◌∷◌}
use Prim.Native.Nat.{ℕ, ◌+◌, ◌-◌, ◌*◌, ◌%◌, ◌^◌, ◌≤◌, ◌<◌}
use native.Mathlib.Nat.{zero-div, zero-mod}
use native.Mathlib.Omega.{arith}
use lib.Bits.{bit_and, or_disjoint}
use lib.Dec.{T, eqb, leb, ltb, eqb→eq, leb→le, ltb→lt}
use lib.IntN.{ℤ, pos, negsuc, nat_abs}
use lib.ListN.{get_or}
use borrow.Author.Tests.{eqb-true, eqb-false, eq-eqb, ne_eqb}
use Rattle.bits.specs.Fields.{field, bit}
use Rattle.bits.specs.Maps.{has}
use Rattle.bits.proofs.FieldLaws.{bit-inside, write_back}
use Rattle.bits.proofs.FlagLaws.{first, second, either, fails, holds}
use Rattle.bits.proofs.SetLaws.{has_and, has_or, has_span, same_map, none_has}
use Rattle.rounding.proofs.Range.{imp, imp→}
use Rattle.field_table.specs.declared.row.Row.{Row}
use Rattle.field_table.specs.Coding.{Field, outside, encode, plain_of}
use Rattle.field_table.specs.Writes.{sets, bit_after, AllHeld}
use Rattle.field_table.specs.Walk.{given, row_write, writes_of, row_fits}
use Rattle.field_table.specs.Masks.{row_bits, mask_where}
use Rattle.field_table.specs.RoundTrip.{rows_apart, apart_from, all_apart, only_zero}
use Rattle.field_table.proofs.Judging.{neither_l, neither_r}
use Rattle.field_table.proofs.Decoding.{only_zero_lem}
use Rattle.field_table.proofs.PlainLaws.{Fits, row_fits_lem, code_out, code_in, read_in, small}
use Rattle.field_table.proofs.RoundTripLaws.{All, all_plain, each-plain}
use Rattle.field_table.proofs.FitLaws.{untouched}
use Rattle.refusals.specs.Refusal.{value_or}
use Rattle.bits.specs.Lists.{Every}

-- ---- which bits a mask has

-- a row has bit i of register r
abbrev row_sets : Row → ℕ → ℕ → Bool
row_sets row r i = sets (row_write row 0) r i

-- one of the rows that pass a test has it
abbrev some_sets : (Row → Bool) → List Field → ℕ → ℕ → Bool
some_sets P [] r i = false
some_sets P (x ∷ xs) r i = P x.row && row_sets x.row r i || some_sets P xs r i

-- the bits of a row
row_has : (row : Row) (r i : ℕ) → has (row_bits row r) i ≡ row_sets row r i
row_has row r i = by (eqb row.register r) refl
  where
    by : (b : Bool) → eqb row.register r ≡ b → has (cond b ((2 ^ row.width - 1) * 2 ^ row.bit) 0) i ≡ row_sets row r i
    by true e = rw (eq-eqb r row.register (sym (eqb-true _ _ e))) (has_span row.bit row.width i)
    by false e = rw (ne_eqb r row.register (λ p. eqb-false _ _ e (sym p))) (none_has i)

-- of a row that passes the test
where_has : (P : Row → Bool) (row : Row) (r i : ℕ) → has (cond (P row) (row_bits row r) 0) i ≡ (P row && row_sets row r i)
where_has P row r i = by (P row)
  where
    by : (b : Bool) → has (cond b (row_bits row r) 0) i ≡ (b && row_sets row r i)
    by true = row_has row r i
    by false = none_has i

-- where such a bit is
record Inside (row : Row) (r i : ℕ) : Type 0 where
  same : r ≡ row.register
  low : row.bit ≤ i
  high : i < row.bit + row.width

inside : (row : Row) (r i : ℕ) → T (row_sets row r i) → Inside row r i
inside row r i t =
    let span = leb row.bit i && ltb i (row.bit + row.width) in
    let bits = second (eqb r row.register) span t in
    record {
      same = eqb→eq r row.register (first (eqb r row.register) span t);
      low = leb→le row.bit i (first (leb row.bit i) (ltb i (row.bit + row.width)) bits);
      high = ltb→lt i (row.bit + row.width) (second (leb row.bit i) (ltb i (row.bit + row.width)) bits);
    }

-- rows that are apart have none in common
rows_apart_lem : (x y : Row) (r i : ℕ) → T (rows_apart x y) → T (row_sets x r i) → T (row_sets y r i) → ⊥
rows_apart_lem x y r i t p q = by (eqb x.register y.register) (eq-eqb _ _ (sym a.same ∙ b.same)) t
  where
    a : Inside x r i
    a = inside x r i p

    b : Inside y r i
    b = inside y r i q

    under : Bool
    under = leb (x.bit + x.width) y.bit

    over : Bool
    over = leb (y.bit + y.width) x.bit

    by : (e : Bool) → e ≡ true → T (not e || (under || over && ltb x.bit 8)) → ⊥
    by true h u =
        ⊎_elim (λ l. omega (arith, leb→le (x.bit + x.width) y.bit l, a.high, b.low))
        (λ l. omega (arith, leb→le (y.bit + y.width) x.bit (first over (ltb x.bit 8) l), a.low, b.high)) (either under (over && ltb x.bit 8) u)
    by false h u = absurd (false≢true h)

some-apart : (P : Row → Bool) (x : Row) (fs : List Field) (r i : ℕ) → T (apart_from x fs) → T (row_sets x r i) → T (some_sets P fs r i) → ⊥
unfolding apart_from
some-apart P x [] r i t p q = q
some-apart P x (y ∷ ys) r i t p q =
    let apart = rows_apart x y.row in
    let here = P y.row && row_sets y.row r i in
    ⊎_elim (λ h. rows_apart_lem x y.row r i (first apart (apart_from x ys) t) p (second (P y.row) (row_sets y.row r i) h))
    (λ h. some-apart P x ys r i (second apart (apart_from x ys) t) p h) (either here (some_sets P ys r i) q)

-- so the masks of such rows have none in common
none_shared : (P : Row → Bool) (x : Row) (fs : List Field) (r : ℕ) → T (apart_from x fs) → ((i : ℕ) → has (mask_where P fs r) i ≡ some_sets P fs r i)
    → bit_and (cond (P x) (row_bits x r) 0) (mask_where P fs r) ≡ 0
none_shared P x fs r t h = same_map _ 0 (λ i.
    has_and (cond (P x) (row_bits x r) 0) (mask_where P fs r) i ∙ ap₂ ◌&&◌ (where_has P x r i) (h i)
    ∙ fails ((P x && row_sets x r i) && some_sets P fs r i) (λ u.
    let own = P x && row_sets x r i in
    some-apart P x fs r i t (second (P x) (row_sets x r i) (first own (some_sets P fs r i) u)) (second own (some_sets P fs r i) u))
    ∙ sym (none_has i))

-- the bits of some rows of a table whose rows are apart
mask-has : (P : Row → Bool) (fs : List Field) (r i : ℕ) → T (all_apart fs) → has (mask_where P fs r) i ≡ some_sets P fs r i
unfolding mask_where all_apart
mask-has P [] r i t = none_has i
mask-has P (x ∷ xs) r i t =
    let a = cond (P x.row) (row_bits x.row r) 0 in
    let b = mask_where P xs r in
    let later = second (apart_from x.row xs) (all_apart xs) t in
    let none = none_shared P x.row xs r (first (apart_from x.row xs) (all_apart xs) t) (λ k. mask-has P xs r k later) in
    ap (λ (m : ℕ). has m i) (sym (or_disjoint a b none)) ∙ has_or a b i ∙ ap₂ ◌||◌ (where_has P x.row r i) (mask-has P xs r i later)

-- ---- bits of no row

-- rows that pass a test and rows that don't are all of them
both_all : (P : Row → Bool) (fs : List Field) (r : ℕ) → mask_where (λ row. not (P row)) fs r + mask_where P fs r ≡ mask_where (λ row. true) fs r
unfolding mask_where
both_all P [] r = refl
both_all P (x ∷ xs) r = by (P x.row) _ _ _ (both_all P xs r)
  where
    by : (b : Bool) (l m n : ℕ) → l + m ≡ n → cond (not b) (row_bits x.row r) 0 + l + (cond b (row_bits x.row r) 0 + m) ≡ row_bits x.row r + n
    by true l m n h = omega arith
    by false l m n h = omega arith

-- no write of a table sets a bit that no row has
none-sets : (zs : List ℤ) (fs : List Field) (r i : ℕ) → some_sets (λ row. true) fs r i ≡ false → Every (λ w. T (not (sets w r i))) (writes_of zs fs)
unfolding writes_of
none-sets zs [] r i e = tt
none-sets zs (x ∷ xs) r i e =
    let own = row_sets x.row r i in
    let rest = some_sets (λ row. true) xs r i in
    (subst (λ (b : Bool). T (not b)) (sym (neither_l own rest e)) tt, none-sets zs xs r i (neither_r own rest e))

-- so it is as found
pub kept-bit : (P : Row → Bool) (zs : List ℤ) (fs : List Field) (found r i : ℕ) → T (all_apart fs)
    → bit i (mask_where (λ row. not (P row)) fs r + mask_where P fs r) ≡ 0 → bit_after found (writes_of zs fs) r i ≡ found
kept-bit P zs fs found r i t e =
    untouched found (writes_of zs fs) r i
    (none-sets zs fs r i (sym (mask-has (λ row. true) fs r i t) ∙ ap (λ (m : ℕ). has m i) (sym (both_all P fs r)) ∙ ap (λ (b : ℕ). eqb b 1) e))

-- ---- must-be-zero bits

-- 0 is the code of any number in a row that has no setting but 0
pub zero-code : (row : Row) → T (row_fits row) → T (only_zero row) → (z : ℤ) → value_or 0 (encode (plain_of row) z) ≡ 0
zero-code row t o z = by (outside row z) refl
  where
    fits : Fits row
    fits = row_fits_lem row t

    none : (z : ℤ) → outside row z ≡ false → nat_abs z ≡ 0
    none (pos n) e = ap nat_abs (only_zero_lem (plain_of row) n (pos n) (sym (read_in row fits n e)) o)
    none (negsuc n) e = absurd (small row fits (negsuc n) e).0

    by : (b : Bool) → outside row z ≡ b → value_or 0 (encode (plain_of row) z) ≡ 0
    by true e = sym (ap (value_or 0) (code_out row z _ e refl))
    by false e = sym (ap (value_or 0) (code_in row z e)) ∙ none z e

-- a row that fits, and has no setting but 0 where it passes the test
abbrev pub zero_fits : (Row → Bool) → Row → Bool
zero_fits P row = row_fits row && imp (P row) (only_zero row)

-- a bit of a field that holds 0
pub bit-zero : (k j b i : ℕ) → field k j b ≡ 0 → k ≤ i → i < k + j → bit i b ≡ 0
bit-zero k j b i e l h =
    ap (bit i) (sym (write_back k j b)) ∙ bit-inside k j b (field k j b) i l h ∙ ap (bit (i - k)) e
    ∙ ap (λ (n : ℕ). n % 2 ^ 1) (zero-div (2 ^ (i - k)))

-- where every field is as its coding makes it, the bits of rows without any other setting are zero
some-zero : (P : Row → Bool) (zs : List ℤ) (fs : List Field) (out : List ℕ) (r i : ℕ)
    → All (λ f. P f.row ≡ true → (z : ℤ) → value_or 0 (encode f z) ≡ 0) fs → AllHeld out (writes_of zs fs) → T (some_sets P fs r i) → bit i (get_or out r 0) ≡ 0
unfolding writes_of
some-zero P zs [] out r i k h t = absurd t
some-zero P zs (x ∷ xs) out r i k h t =
    ⊎_elim here (λ u. some-zero P zs xs out r i k.1 h.1 u) (either (P x.row && row_sets x.row r i) (some_sets P xs r i) t)
  where
    row : Row
    row = x.row

    here : T (P row && row_sets row r i) → bit i (get_or out r 0) ≡ 0
    here u =
        let a = inside row r i (second (P row) (row_sets row r i) u) in
        let code = k.0 (holds (P row) (first (P row) (row_sets row r i) u)) (given zs row) in
        ap (λ (n : ℕ). bit i (get_or out n 0)) a.same
        ∙ bit-zero row.bit row.width (get_or out row.register 0) i
        (h.0 ∙ ap (λ (n : ℕ). n % 2 ^ row.width) code ∙ zero-mod (2 ^ row.width)) a.low a.high

pub zero_bit_lem : (P : Row → Bool) (zs : List ℤ) (fs : List Field) (out : List ℕ) (r i : ℕ) → T (all_apart fs) → T (all_plain (zero_fits P) fs)
    → AllHeld out (writes_of zs fs) → bit i (mask_where P fs r) ≡ 1 → bit i (get_or out r 0) ≡ 0
zero_bit_lem P zs fs out r i t z h e =
    some-zero P zs fs out r i (each-plain (zero_fits P) _ codes fs z) h (subst T (sym (eq-eqb (bit i (mask_where P fs r)) 1 e) ∙ mask-has P fs r i t) tt)
  where
    codes : (row : Row) → T (zero_fits P row) → P row ≡ true → (z : ℤ) → value_or 0 (encode (plain_of row) z) ≡ 0
    codes row t e =
        let last = imp (P row) (only_zero row) in
        zero-code row (first (row_fits row) last t) (imp→ (P row) (only_zero row) (second (row_fits row) last t) e)
