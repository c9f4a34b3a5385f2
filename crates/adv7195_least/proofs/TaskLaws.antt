-- The task to write some registers is a sound one in which no limit is in force, and it allows whatever keeps the rule. Its plan keeps the rule, touches what
-- is needed with the wanted bytes, weighs least, and comes first. Assumes nothing.
use mathlib.Core.Path.{◌≡◌, refl}
use mathlib.Core.Logic.{◌⊎◌, inl, inr}
use mathlib.Core.Bool.{Bool, true, true≢false}
use mathlib.Core.List.{List}
use Prim.Native.Nat.{ℕ, suc, ◌+◌, ◌-◌, ◌*◌, ◌≤◌}
use native.Mathlib.Omega.{arith}
use lib.ListN.{get_or}
use Rattle.bus.specs.Transactions.{Transaction, end, Touches, Touched}
use Rattle.bus.proofs.Play.{Kept}
use Rattle.bus.proofs.Acknowledged.{Fits}
use Rattle.bus.proofs.After.{later}
use Rattle.least_cost.specs.Order.{Holds}
use Rattle.least_cost.specs.Task.{Allowed, Sound, Free}
use Rattle.least_cost.specs.Weight.{byte_weight, start_weight, weights, least_closed}
use Rattle.least_cost.proofs.LowerBound.{least}
use Rattle.least_cost.proofs.Attained.{Right, Planned, planned, bounded}
use Rattle.least_cost.proofs.Greedy.{plan_greedy}
use Rattle.least_cost.proofs.Cheapest.{map_every}
use Rattle.least_cost.proofs.First.{Leads, plan_leads}
use Rattle.adv7195_bus.specs.Kind.{register_count, adv7195}
use Rattle.adv7195_bus.specs.Rules.{Rules, writable}
use Rattle.adv7195_bus.proofs.RuleLaws.{writable_facts, rules-writable, rules-kept}
use Rattle.adv7195_least.specs.Plan.{task_for, plan_for}
use Rattle.bits.specs.Lists.{Every}

-- a list that keeps the rule writes to registers that keep a byte
pub all-kept : (own : ℕ) (ts : List Transaction) → Every Rules ts → Every (Kept (adv7195 own)) ts
all-kept own ts all = map_every Rules (Kept (adv7195 own)) (rules-kept own) ts all

-- the needed registers may be written
abbrev pub Fitting : (ℕ → Bool) → Type 0
Fitting need = (x : ℕ) → need x ≡ true → writable x ≡ true

-- what keeps the rule is allowed
allowed : (need : ℕ → Bool) (t : Transaction) → Rules t → Allowed (task_for need) t
unfolding task_for
allowed need t h = record {
  within = λ x u. (h.inside x u).0;
  takes = λ s u x v w. (rules-writable t).0 h x (omega arith);
  ends = λ x u. refl;
}

module _ (need : ℕ → Bool) (fits : Fitting need) where
  -- the task is sound
  sound : Sound (task_for need)
  unfolding task_for
  sound = record {
    need_in = λ x e. (writable_facts x (fits x e)).0;
    takes_in = λ s x e. (writable_facts x e).0;
    cut_first = refl;
    cut_before = λ x e. absurd (true≢false e);
    cut_after = λ x e. absurd (true≢false e);
    small = omega arith;
    stop = λ i m. record { at = suc i; after = omega arith; takes = λ x u v. absurd (omega arith); cut = refl };
  }

  -- and no limit is in force
  free : Free (task_for need) writable
  unfolding task_for
  free = record { takes = λ s i. refl; needed = fits }

  -- no list that keeps the rule and touches the needed registers weighs less than the least
  pub bound : (us : List Transaction) → Every Rules us → ((x : ℕ) → need x ≡ true → Touched us x) → least_closed (task_for need) register_count 0 ≤ weights us
  unfolding task_for
  bound us all covers = least (task_for need) us (map_every Rules (Allowed (task_for need)) (allowed need) us all) (λ x h. covers x)

  module _ (wanted : List ℕ) where
    -- the wanted bytes
    abbrev want : ℕ → ℕ
    want r = get_or wanted r 0

    -- what the plan is
    pub plan-is : Planned (task_for need) want register_count 0 (plan_for need wanted)
    unfolding plan_for task_for
    plan-is = rw (← (plan_greedy (task_for need) sound writable free want)) (planned (task_for need) want sound)

    -- it covers what is needed
    pub plan-covers : (x : ℕ) → need x ≡ true → Touched (plan_for need wanted) x
    unfolding task_for
    plan-covers x n = plan-is.covers x (omega arith) (writable_facts x (fits x n)).0 n

    -- its transactions keep the rule
    right-rules : (t : Transaction) → Right (task_for need) want t → Rules t
    unfolding task_for
    right-rules t h = (rules-writable t).1 (λ x u. split x u (later t.subaddress x u.0))
      where
        split : (x : ℕ) → Touches t x → (x ≡ t.subaddress) ⊎ (suc t.subaddress ≤ x) → writable x ≡ true
        split x u (inl e) = rw e (fits t.subaddress h.first)
        split x u (inr a) = h.takes x a u.1

    -- so the plan does
    pub plan-rules : Every Rules (plan_for need wanted)
    plan-rules = map_every (Right (task_for need) want) Rules right-rules (plan_for need wanted) plan-is.right

    -- they have data, for registers of the chip
    pub plan-fits : (own : ℕ) → Every (Fits (adv7195 own)) (plan_for need wanted)
    plan-fits own =
        map_every (Right (task_for need) want) (Fits (adv7195 own))
        (λ t h. record { some = h.some; ends = omega (arith, h.some, ((right-rules t h).inside (end t - 1) (omega (arith, h.some))).0) })
        (plan_for need wanted) plan-is.right

    -- and the wanted bytes
    pub plan-holds : Every (Holds want) (plan_for need wanted)
    plan-holds = map_every (Right (task_for need) want) (Holds want) (λ t h. h.holds) (plan_for need wanted) plan-is.right

    -- it weighs little
    pub plan_light : weights (plan_for need wanted) ≤ (start_weight + byte_weight) * register_count
    unfolding task_for
    plan_light = omega (arith, plan-is.weighs, bounded (task_for need) want sound register_count register_count 0 (omega arith) (omega arith))

    -- a list that weighs no more has its starts and lengths or comes after it
    pub plan-before : (us : List Transaction) → Every Rules us → ((x : ℕ) → need x ≡ true → Touched us x) → weights us ≤ weights (plan_for need wanted)
        → Leads (plan_for need wanted) us
    unfolding task_for plan_for
    plan-before us all covers h =
        rw (← (plan_greedy (task_for need) sound writable free want))
        (plan_leads (task_for need) want us (map_every Rules (Allowed (task_for need)) (allowed need) us all) (λ x g. covers x) (omega (arith, plan-is.weighs)))
