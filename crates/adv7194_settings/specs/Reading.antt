-- Document 01, "Refusals": reading checks 1, then the image's fields in order to 28. The settings are left in 49 lent numbers: another length is refused as
-- 3 at field 0, before the fields. A refusal writes nothing. Document 02, P5: reading gives 11 at the first field with an unknown register, before that
-- field's other checks.
use Rattle.std.specs.Prelude.{Bool, cond, not, ◌&&◌, ◌||◌, List, [], ◌∷◌, ◌++◌, ℕ, eqb, ltb, ℤ, length}
use Rattle.refusals.specs.Verdict.{Verdict, good, refused_at, left_by}
use Rattle.refusals.specs.Order.{Place, first_of, places_at, places_in}
use Rattle.adv7194_bus.specs.Kind.{register_count}
use Rattle.adv7194_bus.specs.declared.board.Board.{Board}
use Rattle.adv7194_table.specs.Fields.{number_count}
use Rattle.adv7194_table.specs.Table.{table, order_of}
use Rattle.adv7194_settings.specs.Known.{not_known}
use Rattle.adv7194_settings.specs.Held.{settings_held}
use Rattle.adv7194_settings.specs.Order.{rows_at}
use Rattle.adv7194_settings.specs.Rows.{row_held}

-- row n holds at field f of what is handed to reading: a board, and that many lent numbers
unfoldable pub row_read : Board → ℕ → ℕ → ℕ → Bool
row_read b count n f =
    cond (eqb f 0) (cond (eqb n 1) (not (eqb (length b.registers) register_count)) (eqb n 3 && not (eqb count number_count)))
    (cond (eqb n 11) (not_known b f) (row_held b.registers n f))

-- the checking order of reading
unfoldable pub read_order : List Place
read_order = places_at (1 ∷ 3 ∷ []) 0 ++ places_in (λ f. 11 ∷ rows_at f) (order_of table)

-- reading: row n at field f where it is the first of the checking order that holds
unfoldable pub read_of : Board → ℕ → Verdict (Unit {0})
read_of b count = first_of (row_read b count) read_order tt

-- the lent numbers that reading leaves
abbrev pub read_left : Board → List ℤ → List ℤ
read_left b zs = left_by zs (settings_held b.registers) (read_of b (length zs))

-- a verdict on an image where u is the first field with an unknown register, 0 where there is none: a fault of an earlier field comes before 11 at u
abbrev pub with_unknown : ℕ → Verdict (Unit {0}) → Verdict (Unit {0})
with_unknown u (good a) = cond (eqb u 0) (good a) (refused_at 11 u)
with_unknown u (refused_at n f) = cond (eqb u 0 || ltb f u) (refused_at n f) (refused_at 11 u)
