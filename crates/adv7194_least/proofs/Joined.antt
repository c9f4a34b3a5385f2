-- Where no run of registers is longer than the limit, and so with a limit of 54, the plan is the one that joins gaps of one and two registers, and no other
-- ascending list costs as little. Assumes nothing.
use mathlib.Core.Path.{◌≡◌, refl, ◌∙◌}
use Prim.Native.Nat.{◌<◌}
use native.Mathlib.Omega.{arith}
use Rattle.adv7194_bus.specs.Limit.{no_limit}
use Rattle.adv7194_bus.proofs.LimitLaws.{right-limit}
use Rattle.least_cost.specs.Cheapest.{OnlyOne}
use Rattle.least_cost.proofs.Alike.{greedy_alike}
use Rattle.least_cost.proofs.Within.{greedy_within, plan-within, only-within}
use Rattle.adv7194_least.specs.Aim.{Aim}
use Rattle.adv7194_least.specs.Change.{Change}
use Rattle.adv7194_least.specs.Plan.{may, task_for, task, byte_of, plan_of, joined_plan}
use Rattle.adv7194_least.specs.Demands.{unlimited, RunsWithin, Only}
use Rattle.adv7194_least.proofs.Reached.{task-sound, task-limited}
use Rattle.adv7194_least.proofs.Costs.{reaches-does}
use Rattle.bits.specs.Lists.{Every}
use Rattle.adv7194_least.proofs.Parts.{Within}

module _ (a : Aim) (χ : Change a) where
  -- a right limit is some
  limit-some : 0 < a.limit
  limit-some = omega (arith, (right-limit a.limit χ.limited).0)

  -- the plan that joins gaps keeps the limit
  abbrev JoinedWithin : Type 0
  JoinedWithin = Every (Within a.limit) (joined_plan a)

  -- with a limit of 54 it does
  joined-within : a.limit ≡ no_limit → JoinedWithin
  unfolding joined_plan task_for
  joined-within e = greedy_within (task a) (byte_of a) (task-sound a χ) (may a) a.limit (task-limited a χ) limit-some (omega arith)

  -- where it does, it is the plan
  within-joined : JoinedWithin → plan_of a ≡ joined_plan a
  unfolding plan_of joined_plan
  within-joined w = plan-within (task a) (byte_of a) (task-sound a χ) (may a) a.limit (task-limited a χ) limit-some w

  -- and the only list as cheap that does the task
  plan-alone : JoinedWithin → OnlyOne (task a) (byte_of a) (plan_of a)
  unfolding plan_of joined_plan
  plan-alone w = only-within (task a) (byte_of a) (task-sound a χ) (may a) a.limit (task-limited a χ) limit-some w

  -- so it is with a limit of 54
  pub plan-unlimited : a.limit ≡ no_limit → plan_of a ≡ joined_plan a
  plan-unlimited e = within-joined (joined-within e)

  -- the same change without a limit is one
  unlimited-change : Change (unlimited a)
  unlimited-change = record { found = χ.found; wants = χ.wants; kept = χ.kept; fixed = χ.fixed; word = χ.word; limited = refl }

module _ (a : Aim) (χ : Change a) where
  -- the plan without a limit is the one that joins gaps, which knows none
  unlimited-joined : plan_of (unlimited a) ≡ joined_plan a
  unfolding joined_plan task_for
  unlimited-joined =
      plan-unlimited (unlimited a) (unlimited-change a χ) refl
      ∙ greedy_alike (task (unlimited a)) (task a) (may a) (may a) (byte_of a) refl (λ i. refl) (λ i. refl)

  -- so no run is longer than the limit where it keeps the limit
  as_joined : RunsWithin a → JoinedWithin a χ
  as_joined w = rw unlimited-joined at w

  -- where none is, the plan joins gaps of one and two
  pub plan-joined : RunsWithin a → plan_of a ≡ joined_plan a
  plan-joined w = within-joined a χ (as_joined w)

  -- with a limit of 54 none is
  pub runs_within : a.limit ≡ no_limit → RunsWithin a
  runs_within e = rw unlimited-joined (joined-within a χ e)

  -- where no run is longer than the limit, every ascending list as cheap is the plan
  pub plan-only : Only a (plan_of a)
  plan-only = record {
    ascending = λ w own pointer us α q h. plan-alone a χ (as_joined w) us (reaches-does a χ own pointer us q α) h;
    unlimited = runs_within;
  }
