-- The part written is the line, and is appended.
use Rattle.std.proofs.Common.{ℕ, ap, ◌∙◌, arith}
use Rattle.text.specs.Line.{place_after, appended}
use Rattle.listing.specs.Lines.{refused_line}
use Rattle.listing.specs.Written.{line_of}
use Rattle.listing.proofs.LineLaws.{line_long, line_part}
use Rattle.adv7195_listing.proofs.TextLaws.{refusal-room}
use Rattle.adv7195_listing.proofs.list_refusal.Goals as goal

pub slice_bounds-append-end : goal.slice_bounds-append-end
slice_bounds-append-end c =
    let f = c.args.fault.field in
    line_long c.refused_line-line.result _ (c.refused_line-line.ensures.answer ∙ ap (λ (n : ℕ). line_of (refused_line n f)) c.number.ensures.answer)

pub returns : goal.returns
returns c =
    let f = c.args.fault.field in
    let out = c.args.out.now in
    let e =
    line_part c.refused_line-line.result _
    (c.refused_line-line.ensures.answer ∙ ap (λ (n : ℕ). line_of (refused_line n f)) c.number.ensures.answer) in
    record {
      answer = c.append.ensures.answer ∙ ap (place_after out 0) e;
      memory = c.append.ensures.memory ∙ ap (appended out 0) e;
      most = refusal-room _ _ (omega (arith, c.number.type_inv, c.number.ensures.answer)) (omega arith);
    }
