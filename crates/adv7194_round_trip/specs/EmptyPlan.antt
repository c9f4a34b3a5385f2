-- Document 01, demand 2: planning what was read over the same image is the empty plan. Document 02, P5: so it is of a board, whichever registers without a
-- field it doesn't know. P6: with every right limit.
use Rattle.std.specs.Prelude.{◌≡◌, List, ◌∷◌, ℕ, ℤ, length, drop}
use Rattle.planning.specs.Plan.{done}
use Rattle.adv7194_bus.specs.declared.board.Board.{Board}
use Rattle.adv7194_planning.specs.Planning.{planning_of, plan_left}

-- planning answers one byte, no transaction and no bus byte; it leaves the byte 00, and the rest as it was
pub record EmptyPlan (b : Board) (zs : List ℤ) (address limit : ℕ) (plan : List ℕ) : Type 0 where
  pub answer : planning_of b zs address limit (length plan) ≡ done 1 0 0
  pub memory : plan_left b zs address limit plan ≡ 0x00 ∷ drop 1 plan
