-- What a table means: settings are checked field by field in the table's order and each is put in its field's bits; an image is judged field by field, and
-- each field's setting is read.
use Rattle.std.specs.Prelude.{Bool, true, ◌&&◌, List, [], ◌∷◌, ℕ, ◌+◌, ◌^◌, leb, ltb, ℤ, pos, nat_abs, get_or, set}
use Rattle.std.specs.Int.Signed.{non_neg}
use Rattle.bits.specs.Fields.{field}
use Rattle.refusals.specs.Refusal.{Judged, value_or}
use Rattle.refusals.specs.Verdict.{Verdict, good, after, fault_of}
use Rattle.field_table.specs.declared.row.Row.{Row}
use Rattle.field_table.specs.Coding.{Field, encode, decode}
use Rattle.field_table.specs.Writes.{Write}

-- a row's setting among the numbers; 0 for a row whose index is past them
abbrev pub given : List ℤ → Row → ℤ
given zs r = get_or zs r.index (pos 0)

-- the code that an image holds in a row's bits
abbrev pub held : List ℕ → Row → ℕ
held image r = field r.bit r.width (get_or image r.register 0)

-- ---- settings

-- the coding of a field's setting among the numbers, and the fault that it is
abbrev pub coding_of : List ℤ → Field → Judged ℕ
coding_of zs f = encode f (given zs f.row)

abbrev pub coding_fault : List ℤ → Field → Verdict (Unit {0})
coding_fault zs f = fault_of f.row.field (coding_of zs f)

-- the check of settings: the first refusal of the table's order, with its field
unfoldable pub check_of : List ℤ → List Field → Verdict (Unit {0})
check_of zs [] = good tt
check_of zs (f ∷ fs) = after (coding_fault zs f) (check_of zs fs)

-- a row's bits set to a value
abbrev pub row_write : Row → ℕ → Write
row_write r v = record { register = r.register; place = r.bit; width = r.width; value = v }

-- a field's bits set to its setting's code
abbrev pub write_of : List ℤ → Field → Write
write_of zs f = row_write f.row (value_or 0 (coding_of zs f))

-- what the settings put in an image
unfoldable pub writes_of : List ℤ → List Field → List Write
writes_of zs [] = []
writes_of zs (f ∷ fs) = write_of zs f ∷ writes_of zs fs

-- ---- an image

-- the reading of a field's bits, and the fault that it is
abbrev pub reading_of : List ℕ → Field → Judged ℤ
reading_of image f = decode f (held image f.row)

abbrev pub reading_fault : List ℕ → Field → Verdict (Unit {0})
reading_fault image f = fault_of f.row.field (reading_of image f)

-- the judgement of an image: the first refusal of the table's order, with its field
unfoldable pub judge_of : List ℕ → List Field → Verdict (Unit {0})
judge_of image [] = good tt
judge_of image (f ∷ fs) = after (reading_fault image f) (judge_of image fs)

-- numbers with a field's setting at its index
abbrev pub store : List ℕ → List ℤ → Field → List ℤ
store image zs f = set zs f.row.index (value_or (pos 0) (reading_of image f))

-- numbers with each field's setting at its index
unfoldable pub numbers_of : List ℕ → List ℤ → List Field → List ℤ
numbers_of image zs [] = zs
numbers_of image zs (f ∷ fs) = numbers_of image (store image zs f) fs

-- ---- a table that fits its chip

-- a row's bits lie within a register
abbrev pub bits_fit : Row → Bool
bits_fit r = leb (r.bit + r.width) 8

-- and its settings are codes of them
abbrev pub row_fits : Row → Bool
row_fits r = bits_fit r && (non_neg r.low && (non_neg r.high && ltb (nat_abs r.high) (2 ^ r.width)))

-- every field's row does
unfoldable pub all_fit : List Field → Bool
all_fit [] = true
all_fit (f ∷ fs) = row_fits f.row && all_fit fs

-- every field's register is one of an image of n
unfoldable pub within : ℕ → List Field → Bool
within n [] = true
within n (f ∷ fs) = ltb f.row.register n && within n fs
