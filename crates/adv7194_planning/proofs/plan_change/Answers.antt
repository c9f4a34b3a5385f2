-- `plan_change`: the plan of the maps is the plan of the board, the wanted image and the fixed registers.
use Rattle.std.proofs.Common.{List, length, ap, ◌∙◌}
use Rattle.bus.specs.Transactions.{Transaction}
use Rattle.planning.specs.Plan.{packing_of, plan_after}
use Rattle.adv7194_planning.proofs.MapPlan.{plannable, plan-is}
use Rattle.adv7194_planning.proofs.plan_change.Goals as goal

pub pack-requires : goal.pack-requires
pack-requires c =
    let a = c.args in
    plannable a.board a.wanted.now a.fixed a.limit c.requires c.register_maps-maps.result (c.register_maps-maps.ensures.answer a.limit)

pub returns : goal.returns
returns c =
    let a = c.args in
    let same = plan-is a.board a.wanted.now a.fixed a.limit c.requires c.register_maps-maps.result (c.register_maps-maps.ensures.answer a.limit) in
    record {
      answer = c.pack.ensures.answer ∙ ap (λ (ts : List Transaction). packing_of ts (length a.plan.now)) same;
      memory = c.pack.ensures.memory ∙ ap (λ (ts : List Transaction). plan_after ts a.plan.now) same;
    }
