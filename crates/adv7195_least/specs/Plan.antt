-- Document 02, P13: the plan. Where MR36 stays, the runs of the registers that differ, with gaps of one and two joined. Where it flips, first a transaction
-- that ends with 3E for 09, then the plan for what is left: that start of it is taken with which all weighs least, the lowest such.
use Rattle.std.specs.Prelude.{Bool, true, cond, not, ◌&&◌, ◌||◌, List, ◌∷◌, ℕ, suc, eqb, get_or, set}
use Rattle.std.proofs.Math.Seq.{slice}
use Rattle.bus.specs.Registers.{differs, among}
use Rattle.bus.specs.Transactions.{Transaction}
use Rattle.least_cost.specs.Task.{Task}
use Rattle.least_cost.specs.Weight.{weights}
use Rattle.least_cost.specs.Plan.{greedy_plan}
use Rattle.cutting.specs.Cuts.{first_least}
use Rattle.adv7195_bus.specs.Kind.{register_count}
use Rattle.adv7195_bus.specs.Rules.{writable}
use Rattle.adv7195_bus.specs.Order.{mode_register3, mode_register6, preparing_byte, flipped}

-- the task to write some registers: a transaction may take the registers that may be written, and may end anywhere
unfoldable pub task_for : (ℕ → Bool) → Task
task_for need = record { count = register_count; need = need; takes = λ s r. writable r; cut = λ r. true }

-- the plan for some registers, with the wanted image's bytes
unfoldable pub plan_for : (ℕ → Bool) → List ℕ → List Transaction
plan_for need wanted = greedy_plan (task_for need) writable (λ r. get_or wanted r 0)

-- 09 has to be written once more after the 3E
abbrev pub restores : List ℕ → Bool
restores wanted = not (eqb (get_or wanted mode_register6 0) preparing_byte)

-- what is left to write beside a transaction for the registers a to 09: what differs outside those, 03, and 09 where that has to be written once more
unfoldable pub beside : List ℕ → List ℕ → ℕ → ℕ → Bool
beside image wanted a r =
    (differs image wanted r && not (among a mode_register6 r))
    || (eqb r mode_register3 || (eqb r mode_register6 && restores wanted))

-- the transaction for the registers a to 09 that ends with 3E
unfoldable pub preparing : List ℕ → ℕ → Transaction
preparing wanted a = record { subaddress = a; bytes = slice a (suc mode_register6) (set wanted mode_register6 preparing_byte) }

-- a plan that flips MR36, by the start of its first transaction
unfoldable pub flip_plan : List ℕ → List ℕ → ℕ → List Transaction
flip_plan image wanted a = preparing wanted a ∷ plan_for (beside image wanted a) wanted

-- the registers that its first transaction may start at: 04 to 09
abbrev pub first_start : ℕ
first_start = 0x04

abbrev pub further_starts : ℕ
further_starts = 5

-- the one that it starts at
unfoldable pub preparing_start : List ℕ → List ℕ → ℕ
preparing_start image wanted = first_least (λ a. weights (flip_plan image wanted a)) further_starts first_start

-- the plan's transactions
unfoldable pub plan_of : List ℕ → List ℕ → List Transaction
plan_of image wanted =
    cond (flipped image wanted) (flip_plan image wanted (preparing_start image wanted)) (plan_for (differs image wanted) wanted)
