-- A table walked row by row. Assumes nothing.
use mathlib.Core.Path.{◌≡◌, ap, ap₂, subst}
use mathlib.Core.List.{List, [], ◌∷◌}
use Prim.Native.Nat.{ℕ, ◌+◌, ◌≤◌, ◌<◌}
use native.Mathlib.Numerals.{add-one}
use native.Mathlib.Omega.{arith}
use lib.Dec.{T}
use lib.IntN.{ℤ}
use lib.ListN.{length, get_or, set, drop}
use lib.Seq.{drop-cons, drop-length}
use Rattle.bits.proofs.FlagLaws.{first, second}
use Rattle.refusals.specs.Verdict.{good, after}
use Rattle.field_table.specs.declared.row.Row.{Row}
use Rattle.field_table.specs.Rows.{row_of}
use Rattle.field_table.specs.Coding.{Field, plain_of, plain_fields}
use Rattle.field_table.specs.Writes.{put, puts}
use Rattle.field_table.specs.Walk.{coding_fault, check_of, write_of, writes_of, reading_fault, judge_of, store, numbers_of, row_fits, all_fit}

-- the rows from the i-th on: it, and those after it
row_next : (ps : List ℕ) (i : ℕ) → i < length ps → plain_fields (drop i ps) ≡ plain_of (row_of (get_or ps i 0)) ∷ plain_fields (drop (i + 1) ps)
unfolding plain_fields
row_next ps i h = rw (add-one i, drop-cons ps i 0 h)

-- none after the last
no_rows : (ps : List ℕ) (i : ℕ) → length ps ≤ i → i ≤ length ps → plain_fields (drop i ps) ≡ []
unfolding plain_fields
no_rows ps i h g = let e : i ≡ length ps = omega arith in rw (e, drop-length ps)

-- a table that fits: its first field, and the others
pub fits-first : (f : Field) (fs : List Field) → T (all_fit (f ∷ fs)) → T (row_fits f.row)
unfolding all_fit
fits-first f fs t = first (row_fits f.row) (all_fit fs) t

pub fits-rest : (f : Field) (fs : List Field) → T (all_fit (f ∷ fs)) → T (all_fit fs)
unfolding all_fit
fits-rest f fs t = second (row_fits f.row) (all_fit fs) t

-- ---- one row more

module _ (ps : List ℕ) (i : ℕ) (h : i < length ps) where
  -- the i-th row
  abbrev here : Field
  here = plain_of (row_of (get_or ps i 0))

  pub check_next : (zs : List ℤ) → check_of zs (plain_fields (drop i ps)) ≡ after (coding_fault zs here) (check_of zs (plain_fields (drop (i + 1) ps)))
  unfolding check_of
  check_next zs = ap (check_of zs) (row_next ps i h)

  pub judge_next : (image : List ℕ) → judge_of image (plain_fields (drop i ps)) ≡ after (reading_fault image here) (judge_of image (plain_fields (drop (i + 1) ps)))
  unfolding judge_of
  judge_next image = ap (judge_of image) (row_next ps i h)

  pub puts-next : (zs : List ℤ) (image : List ℕ)
      → puts image (writes_of zs (plain_fields (drop i ps))) ≡ puts (put image (write_of zs here)) (writes_of zs (plain_fields (drop (i + 1) ps)))
  unfolding writes_of puts
  puts-next zs image = ap (λ (fs : List Field). puts image (writes_of zs fs)) (row_next ps i h)

  pub numbers-next : (image : List ℕ) (zs : List ℤ)
      → numbers_of image zs (plain_fields (drop i ps)) ≡ numbers_of image (store image zs here) (plain_fields (drop (i + 1) ps))
  unfolding numbers_of
  numbers-next image zs = ap (numbers_of image zs) (row_next ps i h)

  pub fits_next : T (all_fit (plain_fields (drop i ps))) → T (all_fit (here ∷ plain_fields (drop (i + 1) ps)))
  fits_next t = subst (λ (fs : List Field). T (all_fit fs)) (row_next ps i h) t

-- the end of a table
module _ (ps : List ℕ) (i : ℕ) (past : length ps ≤ i) (to : i ≤ length ps) where
  pub check_end : (zs : List ℤ) → check_of zs (plain_fields (drop i ps)) ≡ good tt
  unfolding check_of
  check_end zs = ap (check_of zs) (no_rows ps i past to)

  pub judge_end : (image : List ℕ) → judge_of image (plain_fields (drop i ps)) ≡ good tt
  unfolding judge_of
  judge_end image = ap (judge_of image) (no_rows ps i past to)

  pub puts-end : (zs : List ℤ) (image : List ℕ) → puts image (writes_of zs (plain_fields (drop i ps))) ≡ image
  unfolding writes_of puts
  puts-end zs image = ap (λ (fs : List Field). puts image (writes_of zs fs)) (no_rows ps i past to)

  pub numbers-end : (image : List ℕ) (zs : List ℤ) → numbers_of image zs (plain_fields (drop i ps)) ≡ zs
  unfolding numbers_of
  numbers-end image zs = ap (numbers_of image zs) (no_rows ps i past to)

-- ---- a row by its packed number

-- what is stored by it
pub store-row : (zs : List ℤ) {r s : Row} {v w : ℤ} → r ≡ s → v ≡ w → set zs r.index v ≡ set zs s.index w
store-row zs e p = ap₂ (λ (x : Row) (y : ℤ). set zs x.index y) e p

-- where it lies
pub same-fits : {r s : Row} → r ≡ s → T (row_fits s) → T (row_fits r)
same-fits e t = rw e t
