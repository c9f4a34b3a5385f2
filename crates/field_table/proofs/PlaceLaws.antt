-- The places of a table's checking order are rows 3 and 4, at fields. Assumes nothing.
use mathlib.Core.Path.{◌≡◌, refl}
use mathlib.Core.Bool.{Bool, true, false, cond, not, ◌&&◌, ◌||◌, and-eq-true_iff}
use mathlib.Core.List.{List, [], ◌∷◌, flat_map}
use Prim.Native.Nat.{ℕ}
use lib.Dec.{eqb}
use Rattle.refusals.specs.Order.{places_at, places_in}
use Rattle.refusals.proofs.PlaceLaws.{all_pass}
use Rattle.field_table.specs.Coding.{Field}
use Rattle.field_table.specs.Refusals.{fields_after, order_of}

-- the rows of a field
abbrev pub range_rows : ℕ → List ℕ
range_rows f = 3 ∷ 4 ∷ []

-- a place at a field, with row 3 or 4
abbrev pub at_field : ℕ → ℕ → Bool
at_field n f = not (eqb f 0) && (eqb n 3 || eqb n 4)

-- no field of a table is numbered 0
abbrev pub numbered : List Field → Bool
numbered [] = true
numbered (x ∷ xs) = not (eqb x.row.field 0) && numbered xs

-- then the places of the fields after one are such
fields_pass : (f : ℕ) (xs : List Field) → numbered xs ≡ true → all_pass at_field (places_in range_rows (fields_after f xs)) ≡ true
unfolding fields_after places_in places_at flat_map
fields_pass f [] e = refl
fields_pass f (x ∷ xs) e =
    let q = (and-eq-true_iff (not (eqb x.row.field 0)) (numbered xs)).0 e in
    by (eqb f x.row.field) q.0 (fields_pass x.row.field xs q.1)
  where
    by : (b : Bool) → not (eqb x.row.field 0) ≡ true → all_pass at_field (places_in range_rows (fields_after x.row.field xs)) ≡ true
        → all_pass at_field (places_in range_rows (cond b (fields_after x.row.field xs) (x.row.field ∷ fields_after x.row.field xs))) ≡ true
    by true n v = v
    by false n v = rw (n, v)

-- and so are those of the whole order
pub order-passes : (xs : List Field) → numbered xs ≡ true → all_pass at_field (order_of xs) ≡ true
order-passes xs e = fields_pass 0 xs e
