-- Document 01, "Refusals", rows 3 and 4, as they hold at a field of settings and of an image, for a table of fields of one number; and the order in which they
-- are checked: the table's fields one after the other, at each 3 and then 4.
use Rattle.std.specs.Prelude.{Bool, true, false, cond, ◌&&◌, ◌||◌, List, [], ◌∷◌, ℕ, suc, eqb, leb, ℤ}
use Rattle.refusals.specs.Refusal.{refused_by}
use Rattle.refusals.specs.Order.{Place, places_in}
use Rattle.field_table.specs.Coding.{Field}
use Rattle.field_table.specs.Walk.{coding_of, reading_of}

-- a row of field f meets a test
unfoldable pub some_row : (Field → Bool) → ℕ → List Field → Bool
some_row P f [] = false
some_row P f (x ∷ xs) = eqb f x.row.field && P x || some_row P f xs

-- row n of the table of refusals holds of settings at field f: the coding of one of its numbers is refused by n
unfoldable pub row_holds : List ℤ → List Field → ℕ → ℕ → Bool
row_holds zs fs n f = some_row (λ x. refused_by n (coding_of zs x)) f fs

-- row n holds of an image at field f: the reading of some of its bits is refused by n
unfoldable pub row_held : List ℕ → List Field → ℕ → ℕ → Bool
row_held image fs n f = some_row (λ x. refused_by n (reading_of image x)) f fs

-- field n before others, unless it is field f
abbrev pub unless : ℕ → ℕ → List ℕ → List ℕ
unless f n fs = cond (eqb f n) fs (n ∷ fs)

-- the fields of a table, each once, where those before it end at field f; rows of one field stand together
unfoldable pub fields_after : ℕ → List Field → List ℕ
fields_after f [] = []
fields_after f (x ∷ xs) = unless f x.row.field (fields_after x.row.field xs)

-- the checking order of a table: at each field 3 and then 4; fields are numbered from 1
abbrev pub order_of : List Field → List Place
order_of fs = places_in (λ f. 3 ∷ 4 ∷ []) (fields_after 0 fs)

-- the table's fields ascend from field f on, and a row with reserved codes is the last of its field: a test
unfoldable pub ascends_from : ℕ → List Field → Bool
ascends_from f [] = true
ascends_from f (x ∷ xs) = leb f x.row.field && ascends_from (cond (eqb x.row.outside 3) x.row.field (suc x.row.field)) xs
