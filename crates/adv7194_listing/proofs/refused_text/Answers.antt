-- `refused_text`: the refusal's line and the fault's in a row. Assumes nothing.
use Rattle.std.proofs.Common.{◌≡◌, ◌∙◌, ℕ, ◌-◌, ◌≤◌, List, length, take, ap, arith, rules, length-take-le}
use Rattle.listing.specs.declared.Line.{Line}
use Rattle.listing.specs.Written.{line_width, line_of}
use Rattle.listing.specs.Lines.{refused_line}
use Rattle.listing.proofs.LineLaws.{line_long, line_part}
use Rattle.adv7194_names.specs.Widths.{text_width}
use Rattle.writing.proofs.Putting.{put, more, wider, same_text, kept}
use Rattle.adv7194_listing.proofs.refused_text.Goals as goal

-- a line's text has no more bytes than the line
short : (line : Line) (text : List ℕ) → line ≡ line_of text → length line.bytes ≡ line_width → length (take (line.length - 0) line.bytes) ≤ line_width
short line text made all =
    let long = line_long line text made in
    omega (arith, long, length-take-le (line.length - 0) line.bytes (omega (arith, long)))

pub slice_bounds-put-end : goal.slice_bounds-put-end
slice_bounds-put-end c = line_long c.refused_line-first.result _ c.refused_line-first.ensures.answer

pub put-second-requires : goal.put-second-requires
put-second-requires c = omega (arith, short c.refused_line-first.result _ c.refused_line-first.ensures.answer (search rules))

pub fault_line-requires : goal.fault_line-requires
fault_line-requires c =
    let first = put c.put-second.ensures.answer c.put-second.ensures.memory in
    omega (arith, short c.refused_line-first.result _ c.refused_line-first.ensures.answer (search rules), kept first)

pub returns : goal.returns
returns c =
    let line = c.refused_line-first.result in
    let made = c.refused_line-first.ensures.answer ∙ ap (λ (n : ℕ). line_of (refused_line n c.args.fault.field)) c.number.ensures.answer in
    let first = put c.put-second.ensures.answer c.put-second.ensures.memory in
    let written = same_text (line_part line _ made) (wider line_width (short line _ made (search rules)) first) in
    record { written = wider text_width (omega arith) (more written c.fault_line.ensures.written (omega arith)) }
