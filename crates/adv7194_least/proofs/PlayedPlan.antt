-- Demand 2: the packed plan unpacks to the plan and is acknowledged throughout, and ends in the wanted registers, whatever the unknown ones held; playing it
-- leaves exactly the registers known or needed known, each with its wanted byte. Assumes nothing.
use mathlib.Core.Path.{◌≡◌, refl, sym, ap, ◌∙◌}
use mathlib.Core.Bool.{Bool, true, false, ◌||◌, false≢true}
use mathlib.Core.List.{List}
use Prim.Native.Nat.{ℕ, ◌<◌}
use lib.ListN.{length, get_or}
use Rattle.bits.proofs.FlagLaws.{holds, fails}
use Rattle.bus.specs.Transactions.{Touched}
use Rattle.bus.proofs.KnownLaws.{touched_by, touched_agree}
use Rattle.packing.specs.Packing.{packed}
use Rattle.adv7194_bus.specs.Kind.{register_count}
use Rattle.adv7194_bus.specs.Board.{knows}
use Rattle.adv7194_bus.specs.Rules.{all_keep_rules}
use Rattle.bus.specs.Address.{address_right}
use Rattle.adv7194_bus.proofs.RuleLaws.{agree_all}
use Rattle.adv7194_playing.specs.declared.PlanKind.TheVariants.{Settings}
use Rattle.adv7194_playing.specs.Playing.{played_board}
use Rattle.bus.proofs.WrittenRun.{written-length}
use Rattle.adv7194_playing.proofs.PlayedLaws.{played_answer, played_registers, played_run, played_untouched, played_knows, played_past}
use Rattle.adv7194_least.specs.Aim.{Aim, must, compared}
use Rattle.adv7194_least.specs.Change.{Change}
use Rattle.adv7194_least.specs.Plan.{plan_of}
use Rattle.adv7194_least.specs.Played.{Leaves, Played}
use Rattle.adv7194_least.proofs.Reached.{plan-rules, plan-clear, must-touched, plan-reaches, plan-acknowledged}
use Rattle.adv7194_least.proofs.Costs.{touched-compared, board-held}
use Rattle.adv7194_least.proofs.PackedPlan.{plan_unpacks, plan-packs}

module _ (a : Aim) (χ : Change a) where
  -- the play call for settings takes the plan
  plan-taken : all_keep_rules (plan_of a) ≡ true
  plan-taken = holds (all_keep_rules (plan_of a)) ((agree_all (plan_of a)).1 (plan-rules a χ))

  -- a register that isn't compared is not touched
  pub untouched : (r : ℕ) → compared a r ≡ false → Touched (plan_of a) r → ⊥
  untouched r e u = false≢true (sym e ∙ (touched-compared a (plan_of a) (plan-rules a χ) (plan-clear a χ) r u).1)

  -- the registers known or touched are those that are compared
  known_or_touched : (r : ℕ) → r < register_count → (knows a.board r || touched_by (plan_of a) r) ≡ compared a r
  known_or_touched r h = by (knows a.board r) refl (a.fixes r) refl
    where
      by : (k : Bool) → knows a.board r ≡ k → (f : Bool) → a.fixes r ≡ f → (knows a.board r || touched_by (plan_of a) r) ≡ compared a r
      by true k f e = rw k
      by false k true e =
          let m : must a r ≡ true = rw (k, e) in
          rw (k, e) (holds (touched_by (plan_of a) r) ((touched_agree (plan_of a) r).1 (must-touched a χ r h m)))
      by false k false e =
          let c : compared a r ≡ false = rw (k, e) in
          rw (k, e) (fails (touched_by (plan_of a) r) (λ t. untouched r c ((touched_agree (plan_of a) r).0 t)))

  module _ (own : ℕ) (right : address_right own ≡ true) where
    -- what playing the packed plan leaves
    plan-leaves : Leaves a (played_board all_keep_rules a.board own own (packed (plan_of a)))
    plan-leaves = record {
      size =
          ap length (played_registers Settings a.board own (packed (plan_of a)) (plan_of a) χ.found.size right (plan_unpacks a χ) plan-taken)
          ∙ written-length a.board.registers (plan_of a);
      known = λ r h.
          played_knows Settings a.board own (packed (plan_of a)) (plan_of a) χ.found.size right (plan_unpacks a χ) plan-taken r ∙ known_or_touched r h;
      wanted = λ r h c.
          ap (λ (l : List ℕ). get_or l r 0)
          (played_run Settings a.board own (packed (plan_of a)) (plan_of a) χ.found.size right (plan_unpacks a χ) plan-taken)
          ∙ (plan-reaches a χ own 0).ends a.board.registers (board-held a χ) r h c;
      others = λ r h c.
          played_untouched Settings a.board own (packed (plan_of a)) (plan_of a) χ.found.size right (plan_unpacks a χ) plan-taken r (untouched r c);
      past = played_past Settings a.board own (packed (plan_of a)) (plan_of a) χ.found.size right (plan_unpacks a χ) plan-taken;
    }

  -- demand 2 of the packed plan
  pub plan_played : Played a (packed (plan_of a))
  plan_played = record {
    list = plan_of a;
    packs = plan-packs a χ;
    reaches = plan-reaches a χ;
    acknowledged = λ own pointer image m. plan-acknowledged a χ own pointer image;
    answer = λ own e. played_answer Settings a.board own (packed (plan_of a)) (plan_of a) χ.found.size e (plan_unpacks a χ) plan-taken;
    leaves = plan-leaves;
  }
