-- Demand 2: the packed plan unpacks to the plan, which keeps the rule and the order, is acknowledged throughout and ends in the wanted image; playing it at the
-- chip's own address answers so and leaves the wanted image. Assumes nothing.
use mathlib.Core.Path.{◌≡◌, sym, ap, ◌∙◌}
use mathlib.Core.Bool.{true}
use mathlib.Core.List.{List}
use Prim.Native.Nat.{ℕ}
use Rattle.refusals.specs.Refusal.{accepted}
use Rattle.refusals.specs.Verdict.{good}
use Rattle.bits.proofs.FlagLaws.{holds}
use Rattle.bus.specs.Run.{idle_at}
use Rattle.bus.specs.Address.{address_right}
use Rattle.packing.specs.Packing.{packed}
use Rattle.adv7195_bus.specs.Rules.{all_keep_rules}
use Rattle.adv7195_bus.specs.Order.{keeps_order}
use Rattle.adv7195_bus.proofs.RuleLaws.{agree_all}
use Rattle.adv7195_bus.proofs.OrderLaws.{order-agrees}
use Rattle.playing.specs.Playing.{Call, judged, play_of, registers_left}
use Rattle.playing.proofs.Judging.{by_test}
use Rattle.playing.proofs.Faults.{plan_played as plan-taken}
use Rattle.adv7195_playing.specs.Playing.{takes, call_of}
use Rattle.adv7195_playing.proofs.PlayedLaws.{no_map}
use Rattle.adv7195_least.specs.Reaching.{Change}
use Rattle.adv7195_least.specs.Plan.{plan_of}
use Rattle.adv7195_least.specs.Played.{Played}
use Rattle.adv7195_least.proofs.Costs.{plan-reaches}
use Rattle.adv7195_least.proofs.Packed.{plan-acknowledged, plan_unpacks, plan-packs}

module _ (image wanted : List ℕ) (χ : Change image wanted) where
  -- its list passes both tests
  plan-rules : all_keep_rules (plan_of image wanted) ≡ true
  plan-rules = holds (all_keep_rules (plan_of image wanted)) ((agree_all (plan_of image wanted)).1 (plan-reaches image wanted χ 0 0).rules)

  plan-order : keeps_order image (plan_of image wanted) ≡ true
  plan-order =
      let q = plan-reaches image wanted χ 0 0 in
      (order-agrees 0 (plan_of image wanted) (idle_at 0 image) q.rules χ.found).1 q.ordered

  module _ (own : ℕ) (right : address_right own ≡ true) where
    -- playing takes it
    takes-plan : takes image (plan_of image wanted) ≡ true
    takes-plan = rw (plan-rules, plan-order)

    -- the call
    abbrev call : Call
    call = call_of image own own (packed (plan_of image wanted))

    -- so playing accepts it
    plan-judged : judged call ≡ accepted (plan_of image wanted)
    plan-judged = by_test (takes image) (plan_unpacks image wanted χ) takes-plan

    -- every byte of it is acknowledged
    plan-answer : play_of call ≡ good true
    plan-answer =
        sym (plan-taken call no_map χ.found right right (plan_of image wanted) plan-judged).answer ∙ ap good (plan-acknowledged image wanted χ own 0)

    -- and it leaves the wanted image
    plan-leaves : registers_left call ≡ wanted
    plan-leaves = sym (plan-taken call no_map χ.found right right (plan_of image wanted) plan-judged).stored ∙ (plan-reaches image wanted χ own 0).ends

  -- demand 2 of the packed plan
  pub plan_played : Played image wanted (packed (plan_of image wanted))
  plan_played = record {
    list = plan_of image wanted;
    packs = plan-packs image wanted χ;
    reaches = plan-reaches image wanted χ;
    acknowledged = plan-acknowledged image wanted χ;
    answer = plan-answer;
    leaves = plan-leaves;
  }
