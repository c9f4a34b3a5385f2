-- Document 01, demand 2: planning what was read over the same image is the empty plan.
use Rattle.std.specs.Prelude.{◌≡◌, List, ◌∷◌, ℕ, ℤ, length, drop}
use Rattle.planning.specs.Plan.{done}
use Rattle.adv7195_planning.specs.Planning.{planning_of, plan_left}

-- planning answers one byte, no transaction and no bus byte; it leaves the byte 00, and the rest as it was
pub record EmptyPlan (image : List ℕ) (zs : List ℤ) (address : ℕ) (plan : List ℕ) : Type 0 where
  pub answer : planning_of image zs address (length plan) ≡ done 1 0 0
  pub memory : plan_left image zs address plan ≡ 0x00 ∷ drop 1 plan
