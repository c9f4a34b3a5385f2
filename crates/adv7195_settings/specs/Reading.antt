-- Document 01, "Refusals", and document 02, P13: reading checks 1, then the image's fields in order. The settings are left in 58 lent numbers: another length
-- is refused as 3 at field 0, before the fields. A refusal writes nothing.
use Rattle.std.specs.Prelude.{Bool, cond, not, ◌&&◌, List, [], ◌∷◌, ◌++◌, ℕ, eqb, ℤ, length}
use Rattle.refusals.specs.Verdict.{Verdict, left_by}
use Rattle.refusals.specs.Order.{Place, first_of, places_at}
use Rattle.adv7195_bus.specs.Kind.{register_count}
use Rattle.adv7195_settings.specs.Numbers.{number_count}
use Rattle.adv7195_settings.specs.Rows.{image_row, order, settings_held}

-- row n holds at field f of what is handed to reading: an image, and that many lent numbers
unfoldable pub row_read : List ℕ → ℕ → ℕ → ℕ → Bool
row_read image count n f =
    cond (eqb f 0) (cond (eqb n 1) (not (eqb (length image) register_count)) (eqb n 3 && not (eqb count number_count))) (image_row image n f)

-- the checking order of reading
unfoldable pub read_order : List Place
read_order = places_at (1 ∷ 3 ∷ []) 0 ++ order

-- reading: row n at field f where it is the first of the checking order that holds
unfoldable pub read_of : List ℕ → ℕ → Verdict (Unit {0})
read_of image count = first_of (row_read image count) read_order tt

-- the lent numbers that reading leaves
abbrev pub read_left : List ℕ → List ℤ → List ℤ
read_left image zs = left_by zs (settings_held image) (read_of image (length zs))
