-- `put_text`: the first line, and below PLAN the plan's lines, in a row. Assumes nothing.
use Rattle.std.proofs.Common.{◌≡◌, refl, sym, length, arith, length-take-le}
use Rattle.refusals.specs.Verdict.{good}
use Rattle.planning.specs.Plan.{Counts}
use Rattle.writing.proofs.Putting.{kept, more, wider, same_text}
use Rattle.why_lines.proofs.CheckLaws.{house_reason}
use Rattle.why_listing.specs.Parts.{Ready, text_width}
use Rattle.why_listing.proofs.TextLaws.{planned_text}
use Rattle.why_listing.proofs.put_text.Goals as goal

pub returns-in_default : goal.returns-in_default
returns-in_default c =
    let w = rw c.in_default.is at c.put_first-first.ensures.written in
    record { written = rw c.in_default.is (wider text_width (omega arith) w) }

pub slice_bounds-plan_lines-end : goal.slice_bounds-plan_lines-end
slice_bounds-plan_lines-end c =
    let ready = rw c.in-Ok.is at c.requires.1 in
    sym (length-take-le c.in-Ok.packed.length c.args.plan.now ready.holds.within)

pub plan_lines-requires : goal.plan_lines-requires
plan_lines-requires c =
    let ready = rw c.in-Ok.is at c.requires.1 in
    let all = length-take-le c.in-Ok.packed.length c.args.plan.now ready.holds.within in
    let w = c.put_first-first.ensures.written in
    (ready.holds.is_well_formed, (omega (arith, all, ready.holds.within, ready.most, kept w, w.most, c.requires.0), ready.whole _ refl))

pub returns : goal.returns
returns c =
    let ready = rw c.in-Ok.is at c.requires.1 in
    let plan = c.args.plan.now in
    let packed = c.in-Ok.packed in
    let counts : Counts = record { length = packed.length; transactions = packed.transactions; bus_bytes = packed.bus_bytes } in
    let all = length-take-le packed.length plan ready.holds.within in
    let w = rw c.in-Ok.is at c.put_first-first.ensures.written in
    let both = more w c.plan_lines.ensures.written (omega (arith, all, ready.holds.within, ready.most, c.requires.0)) in
    record {
      written =
          rw c.in-Ok.is
          (wider text_width (omega (arith, all, ready.holds.within, ready.most))
          (same_text (planned_text (house_reason c.args.image.now) plan counts ready.holds) both));
    }
