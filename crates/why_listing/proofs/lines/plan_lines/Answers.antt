-- `lines::plan_lines`: a walk that writes the lines of each transaction. Assumes nothing.
use Rattle.std.proofs.Common.{◌∙◌, ◌*◌, ℕ, List, sym, ap, length, arith, rules}
use mathlib.Core.List.{flat_map}
use Rattle.bits.proofs.ByteLaws.{first_bytes-length}
use Rattle.unpacking.proofs.StepLaws.{found_step, last_step, faulty_step}
use Rattle.plan_listing.proofs.WalkLaws.{data_in_front, all_passed, no_fault}
use Rattle.writing.proofs.Putting.{kept, wider, same_text}
use Rattle.why_lines.proofs.CheckLaws.{house_reason}
use Rattle.why_listing.specs.WhyText.{transaction_text}
use Rattle.why_listing.specs.Parts.{byte_width}
use Rattle.why_listing.proofs.LineLaws.{list_width, plan-width}
use Rattle.why_listing.proofs.WalkLaws.{listing_begins, lines-room, listing_goes}
use Rattle.why_listing.proofs.lines.plan_lines.Goals as goal

pub loop-t-init : goal.loop-t-init
loop-t-init c =
    listing_begins (house_reason c.args.image.now) c.args.line.now c.args.plan.now c.args.at c.begin-cursor.result c.begin-cursor.ensures.answer
    (λ i. (c.type_inv.plan i).fits) (omega (arith, c.requires.1.0))

pub slice_bounds-bytes-end : goal.slice_bounds-bytes-end
slice_bounds-bytes-end c =
    let went = found_step c.args.plan.now c.loop-t.cursor c.in-Ok-Some.ensures.answer c.in-Ok-Some.field-0-is in
    (data_in_front went c.copy_data.new.registers c.copy_data.ensures.memory).1

pub slice_bounds-transaction_lines-end : goal.slice_bounds-transaction_lines-end
slice_bounds-transaction_lines-end c =
    let went = found_step c.args.plan.now c.loop-t.cursor c.in-Ok-Some.ensures.answer c.in-Ok-Some.field-0-is in
    sym (ap length (data_in_front went c.copy_data.new.registers c.copy_data.ensures.memory).0 ∙ first_bytes-length _ _)

pub transaction_lines-place-requires : goal.transaction_lines-place-requires
transaction_lines-place-requires c =
    let went = found_step c.args.plan.now c.loop-t.cursor c.in-Ok-Some.ensures.answer c.in-Ok-Some.field-0-is in
    let as_many = ap length (data_in_front went c.copy_data.new.registers c.copy_data.ensures.memory).0 ∙ first_bytes-length _ _ in
    let v = c.loop-t.invariant in
    (omega (arith, as_many, lines-room v c.requires.0 c.requires.1.0 went, kept v.written), (c.requires.1.1, omega (arith, as_many, went.low, went.few)))

pub loop-t-smaller : goal.loop-t-smaller
loop-t-smaller c = omega (arith, (found_step c.args.plan.now c.loop-t.cursor c.in-Ok-Some.ensures.answer c.in-Ok-Some.field-0-is).left)

pub loop-t-preserved : goal.loop-t-preserved
loop-t-preserved c =
    let t = c.in-Ok-Some.t in
    let went = found_step c.args.plan.now c.loop-t.cursor c.in-Ok-Some.ensures.answer c.in-Ok-Some.field-0-is in
    let copied = (data_in_front went c.copy_data.new.registers c.copy_data.ensures.memory).0 in
    let as_many = ap length copied ∙ first_bytes-length _ _ in
    let why = house_reason c.args.image.now in
    listing_goes c.loop-t.invariant c.requires.0 c.requires.1.0 went
    (wider _ (omega (arith, as_many))
    (same_text (ap (λ (bs : List ℕ). transaction_text why (record { subaddress = t.subaddress; bytes = bs })) copied) c.transaction_lines-place.ensures.written))

pub returns-in_default : goal.returns-in_default
returns-in_default c =
    let v = c.loop-t.invariant in
    let plan = c.args.plan.now in
    let all = all_passed v.walked c.requires.0 (last_step plan c.loop-t.cursor c.in_default.ensures.answer (search rules)) in
    record {
      written =
          same_text (ap (flat_map (transaction_text (house_reason c.args.image.now))) (sym all))
          (wider (byte_width * length plan) (omega (arith, plan-width plan c.requires.0, ap list_width all)) v.written);
    }

pub returns-in_default-2 : goal.returns-in_default-2
returns-in_default-2 c =
    let e = faulty_step c.args.plan.now c.loop-t.cursor (sym c.in_default.is ∙ c.next.ensures.answer) in
    absurd (no_fault c.loop-t.invariant.walked c.requires.0 e)
