-- The plan of the maps is the plan of the images.
use Rattle.std.proofs.Common.{List, ℕ, length, refl, sym, ap, ◌∙◌, arith}
use lib.ListN.{set, length-set}
use Rattle.bus.specs.Transactions.{Transaction}
use Rattle.planning.specs.Plan.{packing_of, plan_after}
use Rattle.adv7195_bus.specs.Order.{interpolation}
use Rattle.adv7195_least.specs.Plan.{restores}
use Rattle.adv7195_planning.specs.Told.{Told}
use Rattle.adv7195_planning.proofs.MapPlan.{plan_stays, flip_joinable, plan_flips}
use Rattle.adv7195_planning.proofs.plan_change.Goals as goal

pub pack-requires : goal.pack-requires
unfolding interpolation
pack-requires c =
    let a = c.args in
    (plan_stays a.image.now a.wanted.now c.requires _ c.changed_registers-changed.ensures.answer (sym c.flips.ensures.answer ∙ c.if-not-flips.true)).0

pub returns-then-not-flips : goal.returns-then-not-flips
unfolding interpolation
returns-then-not-flips c =
    let a = c.args in
    let same =
    (plan_stays a.image.now a.wanted.now c.requires _ c.changed_registers-changed.ensures.answer (sym c.flips.ensures.answer ∙ c.if-not-flips.true)).1 in
    record {
      answer = c.pack.ensures.answer ∙ ap (λ (ts : List Transaction). packing_of ts (length a.plan.now)) same;
      memory = c.pack.ensures.memory ∙ ap (λ (ts : List Transaction). plan_after ts a.plan.now) same;
    }

pub slice_bounds-pack_after-end : goal.slice_bounds-pack_after-end
slice_bounds-pack_after-end c =
    let bytes = ap (λ (l : List ℕ). set l 0x09 0x3e) c.copied-bytes.ensures.answer in
    omega (arith, ap length bytes, length-set c.args.wanted.now 0x09 0x3e, c.requires.wants)

pub pack_after-requires : goal.pack_after-requires
pack_after-requires c =
    let a = c.args in
    let told : Told a.image.now a.wanted.now c.changed_registers-changed.result (restores a.wanted.now) =
    record { change = c.requires; differ = c.changed_registers-changed.ensures.answer; back = refl } in
    let bytes = ap (λ (l : List ℕ). set l 0x09 0x3e) c.copied-bytes.ensures.answer in
    flip_joinable a.image.now a.wanted.now c.requires c.preparing_start-start.result c.beside-needed.result c.preparing_start-start.ensures.range.1
    (c.beside-needed.ensures.answer a.image.now a.wanted.now told) _ bytes

pub returns : goal.returns
unfolding interpolation
returns c =
    let a = c.args in
    let told : Told a.image.now a.wanted.now c.changed_registers-changed.result (restores a.wanted.now) =
    record { change = c.requires; differ = c.changed_registers-changed.ensures.answer; back = refl } in
    let bytes = ap (λ (l : List ℕ). set l 0x09 0x3e) c.copied-bytes.ensures.answer in
    let same =
    plan_flips a.image.now a.wanted.now c.requires c.preparing_start-start.result c.beside-needed.result c.preparing_start-start.ensures.range.1
    (c.beside-needed.ensures.answer a.image.now a.wanted.now told) _ bytes (c.preparing_start-start.ensures.answer a.image.now a.wanted.now told)
    (sym c.flips.ensures.answer ∙ c.if-not-flips.false) in
    record {
      answer = c.pack_after.ensures.answer ∙ ap (λ (ts : List Transaction). packing_of ts (length a.plan.now)) same;
      memory = c.pack_after.ensures.memory ∙ ap (λ (ts : List Transaction). plan_after ts a.plan.now) same;
    }
