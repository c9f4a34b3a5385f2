-- Document 02, P6: with the limit at 54 answers equal those of a planner that knows no limit.
use Rattle.std.specs.Prelude.{Bool, cond, not, ◌&&◌, List, ℕ, eqb, ltb, ℤ, length}
use Rattle.refusals.specs.Verdict.{Verdict}
use Rattle.refusals.specs.Order.{first_of}
use Rattle.bus.specs.Transactions.{Transaction}
use Rattle.packing.specs.Packing.{packed}
use Rattle.planning.specs.Plan.{Counts, counts_of}
use Rattle.adv7194_bus.specs.Kind.{register_count}
use Rattle.bus.specs.Address.{address_right}
use Rattle.adv7194_bus.specs.Limit.{no_limit}
use Rattle.adv7194_bus.specs.declared.board.Board.{Board}
use Rattle.adv7194_table.specs.Fields.{number_count}
use Rattle.adv7194_settings.specs.Known.{partly_fixed}
use Rattle.adv7194_settings.specs.Rows.{row_holds}
use Rattle.adv7194_least.specs.Aim.{aim_of}
use Rattle.adv7194_least.specs.Plan.{joined_plan}
use Rattle.adv7194_planning.specs.Rows.{plan_order}

-- the plan's transactions: gaps of one and two registers are joined, and each run is one transaction
abbrev pub joined_list : Board → List ℤ → List Transaction
joined_list b zs = joined_plan (aim_of b zs no_limit)

-- row n holds of a call without a limit, at no field
abbrev pub call_row_no_limit : Board → List ℤ → ℕ → ℕ → ℕ → Bool
call_row_no_limit b zs address room n =
    cond (eqb n 1) (not (eqb (length b.registers) register_count))
    (cond (eqb n 2) (not (address_right address))
    (cond (eqb n 3) (not (eqb (length zs) number_count))
    (eqb n 10 && ltb room (length (packed (joined_list b zs))))))

-- row n holds at field f of what is handed to a planner that knows no limit
abbrev pub row_no_limit : Board → List ℤ → ℕ → ℕ → ℕ → ℕ → Bool
row_no_limit b zs address room n f =
    cond (eqb f 0) (call_row_no_limit b zs address room n) (cond (eqb n 11) (partly_fixed b zs f) (row_holds zs n f))

-- what such a planner answers: planning with the limit at 54 does too (theorem `no_limit_lem` of proofs/NoLimit.antt)
unfoldable pub planning_no_limit : Board → List ℤ → ℕ → ℕ → Verdict Counts
planning_no_limit b zs address room = first_of (row_no_limit b zs address room) plan_order (counts_of (joined_list b zs))
