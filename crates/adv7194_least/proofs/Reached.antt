-- The plan keeps the rules and the limit and touches only what is known or needed; it ends in the wanted image, whatever the unknown registers held, and is
-- acknowledged throughout. Assumes nothing.
use mathlib.Core.Path.{◌≡◌, refl, ◌∙◌}
use mathlib.Core.Logic.{◌⊎◌, inl, inr, ⊎_elim}
use mathlib.Core.Bool.{Bool, true, false}
use mathlib.Core.List.{List}
use Prim.Native.Nat.{ℕ, ◌≤◌, ◌<◌}
use native.Mathlib.Omega.{arith}
use lib.ListN.{get_or}
use borrow.Author.Tests.{ne_eqb}
use Rattle.bus.specs.Transactions.{Transaction, end, Touched}
use Rattle.bus.specs.Run.{all_acknowledged, list_events, after, idle_at}
use Rattle.bus.proofs.Acknowledged.{Fits, acknowledged-list}
use Rattle.adv7194_bus.specs.Kind.{register_count, read_only, adv7194}
use Rattle.adv7194_bus.specs.Board.{knows}
use Rattle.adv7194_bus.specs.Rules.{Rules}
use Rattle.least_cost.specs.Task.{Sound, Limited}
use Rattle.least_cost.specs.Cheapest.{Cheapest}
use Rattle.least_cost.proofs.Attained.{Right, planned}
use Rattle.least_cost.proofs.Gaps.{Later}
use Rattle.least_cost.proofs.Segments.{later-limited}
use Rattle.least_cost.proofs.Cheapest.{map_every, cheapest_plan}
use Rattle.least_cost.proofs.Ends.{Kept, ends_in}
use Rattle.adv7194_least.specs.Aim.{Aim, must, compared}
use Rattle.adv7194_least.specs.Change.{Change}
use Rattle.adv7194_least.specs.Plan.{writable, may, task_for, task, byte_of, plan_of}
use Rattle.adv7194_least.specs.Reaching.{MayHold, AsWanted, Reaches}
use Rattle.bits.proofs.FlagLaws.{both_true}
use Rattle.adv7194_least.proofs.TaskLaws.{must-needed, sound, limited}
use Rattle.bus.proofs.RegisterLaws.{differs_or_same}
use Rattle.adv7194_least.proofs.Differing.{permits}
use Rattle.adv7194_least.proofs.Keeping.{right-may, right-within, right-rules, right-fits}
use Rattle.bits.specs.Lists.{Every}
use Rattle.adv7194_least.proofs.Parts.{Clear, Within}

-- what keeps the rules writes to registers that keep a byte
pub rules-kept : (own : ℕ) (t : Transaction) → Rules t → Kept (adv7194 own) t
rules-kept own t h x u = ((h.inside x u).0, rw (ne_eqb x read_only (h.inside x u).1))

module _ (a : Aim) (χ : Change a) where
  -- the task of planning is sound
  pub task-sound : Sound (task a)
  task-sound = sound a.limit (must a) (may a) (permits a χ)

  -- the limit is in force
  pub task-limited : Limited (task a) (may a) a.limit
  task-limited = limited a.limit (must a) (may a) (permits a χ)

  -- so a transaction that starts later may take what an earlier one may
  pub task-later : Later (task a)
  task-later = later-limited (task a) task-sound (may a) a.limit task-limited

  -- the plan is the cheapest list that does the task, and the first of those
  pub plan_cheapest : Cheapest (task a) (byte_of a) (plan_of a)
  unfolding plan_of
  plan_cheapest = cheapest_plan (task a) (byte_of a) task-sound task-later

  -- each of its transactions is as a transaction of a plan is
  pub plan-right : Every (Right (task a) (byte_of a)) (plan_of a)
  unfolding plan_of
  plan-right = (planned (task a) (byte_of a) task-sound).right

  -- so it is as they are
  pub plan-each : (P : Transaction → Type 0) → ((t : Transaction) → Right (task a) (byte_of a) t → P t) → Every P (plan_of a)
  plan-each P f = map_every (Right (task a) (byte_of a)) P f (plan_of a) plan-right

  -- it keeps the rules
  pub plan-rules : Every Rules (plan_of a)
  plan-rules = plan-each Rules (right-rules a.limit (must a) (may a) (permits a χ) (byte_of a))

  -- and the limit
  plan-limited : Every (Within a.limit) (plan_of a)
  plan-limited = plan-each (Within a.limit) (right-within a.limit (must a) (may a) (permits a χ) (byte_of a))

  -- it touches no unknown register that isn't needed
  pub plan-clear : Every (Clear a) (plan_of a)
  plan-clear =
      plan-each (Clear a)
      (λ t h r u. (both_true (writable r) (compared a r) (right-may a.limit (must a) (may a) (permits a χ) (byte_of a) t h r u)).1)

  -- and its data are for registers of the chip
  pub plan-inside : Every (λ t. end t ≤ register_count) (plan_of a)
  plan-inside = plan-each (λ t. end t ≤ register_count) (λ t h. (right-fits a.limit (must a) (may a) (permits a χ) (byte_of a) 0 t h).ends)

  -- it is acknowledged throughout, whatever the chip holds
  pub plan-acknowledged : (own pointer : ℕ) (image : List ℕ)
      → all_acknowledged (adv7194 own) (idle_at pointer image) (list_events own (plan_of a)) ≡ true
  plan-acknowledged own pointer image =
      acknowledged-list (adv7194 own) (plan_of a) (idle_at pointer image)
      (plan-each (Fits (adv7194 own)) (right-fits a.limit (must a) (may a) (permits a χ) (byte_of a) own))

  -- it touches every register that must be written
  pub must-touched : (r : ℕ) → r < register_count → must a r ≡ true → Touched (plan_of a) r
  unfolding task_for
  must-touched r h m = plan_cheapest.does.covers r h (must-needed (must a) r m)

  -- so a compared register that it doesn't touch has its wanted byte
  touched_or_right : (image : List ℕ) → MayHold a.board image → (r : ℕ) → r < register_count → compared a r ≡ true
      → Touched (plan_of a) r ⊎ (get_or image r 0 ≡ byte_of a r)
  touched_or_right image m r h c = split (knows a.board r) refl
    where
      split : (b : Bool) → knows a.board r ≡ b → Touched (plan_of a) r ⊎ (get_or image r 0 ≡ byte_of a r)
      split true e =
          ⊎_elim (λ d. inl (must-touched r h (rw e d))) (λ s. inr (m.agrees r e ∙ s)) (differs_or_same a.board.registers a.wanted r)
      split false e = let f : a.fixes r ≡ true = rw e at c in inl (must-touched r h (rw e f))

  -- it ends in the wanted registers
  plan-ends : (own pointer : ℕ) (image : List ℕ) → MayHold a.board image
      → AsWanted a (after (adv7194 own) (idle_at pointer image) (plan_of a)).registers
  plan-ends own pointer image m r h c =
      let n = m.size in
      ends_in (adv7194 own) (byte_of a) (plan_of a) (idle_at pointer image) r
      (map_every Rules (Kept (adv7194 own)) (rules-kept own) (plan_of a) plan-rules)
      plan_cheapest.does.holds (omega arith) (touched_or_right image m r h c)

  -- so it is one of the lists that demand 3 speaks of
  pub plan-reaches : (own pointer : ℕ) → Reaches own pointer a (plan_of a)
  plan-reaches own pointer = record { rules = plan-rules; limited = plan-limited; clear = plan-clear; ends = plan-ends own pointer }
