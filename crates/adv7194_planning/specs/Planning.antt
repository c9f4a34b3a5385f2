-- Document 01, "The bus and its three rules" and "Packing": planning answers the packed plan's length, its transactions and its bus bytes, counted
-- from the list that it packed. The lent plan past the packed bytes stays as it was; a refusal writes nothing.
use Rattle.std.specs.Prelude.{List, ℕ, ℤ, length}
use Rattle.refusals.specs.Verdict.{Verdict}
use Rattle.refusals.specs.Order.{first_of}
use Rattle.planning.specs.Plan.{Counts, counts_of, packed_left}
use Rattle.adv7194_bus.specs.declared.board.Board.{Board}
use Rattle.adv7194_planning.specs.Rows.{list_of, row_planned, plan_order}

-- planning: row n at field f where it is the first of the checking order that holds; else the numbers of the packed list
unfoldable pub planning_of : Board → List ℤ → ℕ → ℕ → ℕ → Verdict Counts
planning_of b zs address limit room = first_of (row_planned b zs address limit room) plan_order (counts_of (list_of b zs limit))

-- the lent plan that planning leaves
abbrev pub plan_left : Board → List ℤ → ℕ → ℕ → List ℕ → List ℕ
plan_left b zs address limit plan = packed_left (list_of b zs limit) plan (planning_of b zs address limit (length plan))
