-- The walk's transactions are the plan's, and each line is written after those before it.
use Rattle.std.proofs.Common.{◌∙◌, sym, ap, ◌+◌, length, arith, rules}
use mathlib.Core.List.{flat_map}
use Rattle.bits.proofs.ByteLaws.{first_bytes-length}
use Rattle.unpacking.proofs.StepLaws.{found_step, last_step, faulty_step}
use Rattle.text.specs.Line.{appended}
use Rattle.text.proofs.Appending.{kept}
use Rattle.plan_listing.specs.PlanText.{transaction_line}
use Rattle.plan_listing.proofs.WalkLaws.{listing_begins, data_in_front, all_passed, no_fault, line_room, listing_goes}
use Rattle.plan_listing.proofs.put_lines.Goals as goal

pub loop-t-init : goal.loop-t-init
loop-t-init c =
    listing_begins c.args.out.now c.args.plan.now c.args.at c.begin-cursor.result c.begin-cursor.ensures.answer (λ i. (c.type_inv.plan i).fits)
    (omega (arith, c.requires.1))

pub slice_bounds-bytes-end : goal.slice_bounds-bytes-end
slice_bounds-bytes-end c =
    let went = found_step c.args.plan.now c.loop-t.cursor c.in-Ok-Some.ensures.answer c.in-Ok-Some.field-0-is in
    (data_in_front went c.copy_data.new.registers c.copy_data.ensures.memory).1

pub slice_bounds-put_line-end : goal.slice_bounds-put_line-end
slice_bounds-put_line-end c =
    let went = found_step c.args.plan.now c.loop-t.cursor c.in-Ok-Some.ensures.answer c.in-Ok-Some.field-0-is in
    sym (ap length (data_in_front went c.copy_data.new.registers c.copy_data.ensures.memory).0 ∙ first_bytes-length _ _)

pub put_line-end-requires : goal.put_line-end-requires
put_line-end-requires c =
    let went = found_step c.args.plan.now c.loop-t.cursor c.in-Ok-Some.ensures.answer c.in-Ok-Some.field-0-is in
    let as_many = ap length (data_in_front went c.copy_data.new.registers c.copy_data.ensures.memory).0 ∙ first_bytes-length _ _ in
    let v = c.loop-t.invariant in
    omega (arith, as_many, line_room v c.requires.0 c.requires.1 went, kept v.written)

pub loop-t-smaller : goal.loop-t-smaller
loop-t-smaller c = omega (arith, (found_step c.args.plan.now c.loop-t.cursor c.in-Ok-Some.ensures.answer c.in-Ok-Some.field-0-is).left)

pub loop-t-preserved : goal.loop-t-preserved
loop-t-preserved c =
    let l = c.loop-t in
    let t = c.in-Ok-Some.t in
    let went = found_step c.args.plan.now l.cursor c.in-Ok-Some.ensures.answer c.in-Ok-Some.field-0-is in
    let copied = (data_in_front went c.copy_data.new.registers c.copy_data.ensures.memory).0 in
    let as_many = ap length copied ∙ first_bytes-length _ _ in
    listing_goes l.invariant c.requires.0 c.requires.1 went c.put_line-end.new.out c.put_line-end.result
    (c.put_line-end.ensures.memory ∙ ap (λ bs. appended l.out l.end (transaction_line (record { subaddress = t.subaddress; bytes = bs }))) copied)
    (omega (arith, c.put_line-end.ensures.answer, as_many))

pub returns-in_default-clause-answer : goal.returns-in_default-clause-answer
returns-in_default-clause-answer c =
    let v = c.loop-t.invariant in
    let all = all_passed v.walked c.requires.0 (last_step c.args.plan.now c.loop-t.cursor c.in_default.ensures.answer (search rules)) in
    v.written.here ∙ ap (λ ts. c.args.at + length (flat_map transaction_line ts)) (sym all)

pub returns-in_default-clause-memory : goal.returns-in_default-clause-memory
returns-in_default-clause-memory c =
    let v = c.loop-t.invariant in
    let all = all_passed v.walked c.requires.0 (last_step c.args.plan.now c.loop-t.cursor c.in_default.ensures.answer (search rules)) in
    v.written.memory ∙ ap (λ ts. appended c.args.out.now c.args.at (flat_map transaction_line ts)) (sym all)

pub returns-in_default-2 : goal.returns-in_default-2
returns-in_default-2 c =
    let e = faulty_step c.args.plan.now c.loop-t.cursor (sym c.in_default.is ∙ c.next.ensures.answer) in
    absurd (no_fault c.loop-t.invariant.walked c.requires.0 e)
