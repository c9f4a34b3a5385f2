-- The pairs' counts tell the room of their packed list.
use Rattle.std.proofs.Common.{refl, sym, ap₂, ◌∙◌, arith}
use Rattle.bus.specs.Cost.{cost_of}
use Rattle.bus.proofs.CostLaws.{bytes_count}
use Rattle.packing.specs.Packing.{packed_length}
use Rattle.packing.proofs.PackedLaws.{packed-length}
use Rattle.planning.proofs.PlanLaws.{too_short, has_room}
use Rattle.adv7194_captions.specs.Pairs.{caption_list}
use Rattle.adv7194_caption_planning.proofs.PairCounts.{counted}
use Rattle.adv7194_caption_planning.proofs.plan_pairs.Goals as goal

pub overflow_add-data_bytes : goal.overflow_add-data_bytes
overflow_add-data_bytes c = omega (arith, (counted c.args.extended.now c.args.ordinary.now c.requires).few)

pub returns-then-plan-length : goal.returns-then-plan-length
returns-then-plan-length c =
    let list = caption_list c.args.extended.now c.args.ordinary.now in
    let k = counted c.args.extended.now c.args.ordinary.now c.requires in
    let long =
    c.packed_length-length.ensures.answer ∙ ap₂ packed_length (sym k.transactions) (sym k.bytes) ∙ sym (packed-length list) in
    let p = too_short list list c.args.plan.now refl (omega (arith, c.if-plan-length.true, long)) in
    rw c.at.ensures.answer (record { answer = p.0; memory = p.1 })

pub pack_pairs-requires : goal.pack_pairs-requires
pack_pairs-requires c =
    let list = caption_list c.args.extended.now c.args.ordinary.now in
    let k = counted c.args.extended.now c.args.ordinary.now c.requires in
    let long =
    c.packed_length-length.ensures.answer ∙ ap₂ packed_length (sym k.transactions) (sym k.bytes) ∙ sym (packed-length list) in
    record { right = c.requires; counted = sym k.transactions; fits = omega (arith, c.if-plan-length.false, long) }

pub returns : goal.returns
returns c =
    let list = caption_list c.args.extended.now c.args.ordinary.now in
    let k = counted c.args.extended.now c.args.ordinary.now c.requires in
    let long =
    c.packed_length-length.ensures.answer ∙ ap₂ packed_length (sym k.transactions) (sym k.bytes) ∙ sym (packed-length list) in
    let cost = c.bus_bytes.ensures.answer ∙ ap₂ cost_of (sym k.transactions) (sym k.bytes) ∙ sym (bytes_count list) in
    let p =
    has_room list list c.args.plan.now c.pack_pairs.new.plan c.packed_length-length.result _ c.bus_bytes.result refl
    (omega (arith, c.if-plan-length.false, long)) long (sym k.transactions) cost c.pack_pairs.ensures.memory in
    record { answer = p.0; memory = p.1 }
