-- The reason of a known register of the plan, test by test.
use Rattle.std.specs.Prelude.{◌≡◌, Bool, true, cond, not, List, ℕ, eqb}
use Rattle.adv7194_table.specs.Table.{table, order_of}
use Rattle.adv7194_table.specs.RawCodes.{zero_bits}
use Rattle.adv7194_least.specs.Aim.{Aim}
use Rattle.adv7194_least.specs.Change.{Change}
use Rattle.adv7194_least.specs.Plan.{plan_of}
use Rattle.adv7194_reasons.specs.First.{first_true}
use Rattle.adv7194_reasons.specs.Reasons.{Reason, changed, zeroed, companion, bridge, bits_differ, with_other, next_below, next_above, holds, reason_of}

-- the lowest field whose bits in register r differ between two images, or 0
abbrev pub lowest_changed : List ℕ → List ℕ → ℕ → ℕ
lowest_changed found wanted r = first_true (bits_differ found wanted r) (order_of table) 0

-- the reason of register r, where the registers that pass a test are needed: no test is left for a bridge
abbrev pub known_reason : List ℕ → List ℕ → (ℕ → Bool) → ℕ → Reason
known_reason found wanted needs r =
    cond (eqb (lowest_changed found wanted r) 0)
    (cond (not (eqb (zero_bits found r) 0)) zeroed (cond (with_other needs r) companion (bridge (next_below needs r) (next_above needs r))))
    (changed (lowest_changed found wanted r))

-- a change for which register r has an answer that is true
pub record Answered (a : Aim) (r : ℕ) : Type 0 where
  pub change : Change a
  pub answer : holds a (plan_of a) r (reason_of a (plan_of a) r) ≡ true
