-- Reading and placing are inverse, for any table whose fields have bits and numbers of their own.
use Rattle.std.specs.Prelude.{◌≡◌, Bool, true, false, not, cond, ◌&&◌, ◌||◌, List, [], ◌∷◌, ℕ, zero, suc, ◌+◌, eqb, leb, ltb, ℤ, nat_abs, length}
use Rattle.refusals.specs.Verdict.{good}
use Rattle.field_table.specs.declared.row.Row.{Row}
use Rattle.field_table.specs.Coding.{Field}
use Rattle.field_table.specs.Writes.{puts}
use Rattle.field_table.specs.Walk.{check_of, writes_of, judge_of, numbers_of}

-- ---- tests of a table

-- two rows have no bit of a register in common
abbrev pub rows_apart : Row → Row → Bool
rows_apart r s = not (eqb r.register s.register) || (leb (r.bit + r.width) s.bit || leb (s.bit + s.width) r.bit && ltb r.bit 8)

-- a row has none in common with any of some fields
unfoldable pub apart_from : Row → List Field → Bool
apart_from r [] = true
apart_from r (f ∷ fs) = rows_apart r f.row && apart_from r fs

-- no two of a table's fields have one in common
unfoldable pub all_apart : List Field → Bool
all_apart [] = true
all_apart (f ∷ fs) = apart_from f.row fs && all_apart fs

-- some field has its setting at index k of the numbers
unfoldable pub some_at : ℕ → List Field → Bool
some_at k [] = false
some_at k (f ∷ fs) = eqb k f.row.index || some_at k fs

-- 0 is a row's only setting
abbrev pub only_zero : Row → Bool
only_zero r = eqb (nat_abs r.low) 0 && eqb (nat_abs r.high) 0

-- of the n numbers no two fields have the same, and must-be-zero bits, which have none, have no other setting than 0
unfoldable pub own_numbers : ℕ → List Field → Bool
own_numbers n [] = true
own_numbers n (f ∷ fs) = cond (ltb f.row.index n) (not (some_at f.row.index fs)) (only_zero f.row) && own_numbers n fs

-- each of the n numbers is some field's
unfoldable pub all_numbered : ℕ → List Field → Bool
all_numbered zero fs = true
all_numbered (suc k) fs = some_at k fs && all_numbered k fs

-- ---- the two ways round

-- settings mean the image that they were read from: they pass the check, and over that image they want nothing else
pub record MeansItself (fs : List Field) (image : List ℕ) (zs : List ℤ) : Type 0 where
  pub passes : check_of zs fs ≡ good tt
  pub same : puts image (writes_of zs fs) ≡ image

-- what was placed is read back, into whatever numbers
pub record ReadsBack (fs : List Field) (image : List ℕ) (zs : List ℤ) : Type 0 where
  pub passes : judge_of image fs ≡ good tt
  pub same : (old : List ℤ) → length old ≡ length zs → numbers_of image old fs ≡ zs
