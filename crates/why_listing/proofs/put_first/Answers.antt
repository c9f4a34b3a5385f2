-- `put_first`: the part of the line that holds its text is put. Assumes nothing.
use Rattle.std.proofs.Common.{◌≡◌, ◌-◌, ◌≤◌, ℕ, List, length, take, ap, arith, rules, length-take-le}
use Rattle.listing.specs.declared.Line.{Line}
use Rattle.listing.specs.Written.{line_width, line_of}
use Rattle.listing.proofs.LineLaws.{line_long, line_part}
use Rattle.planning.specs.Plan.{answer_of}
use Rattle.answer_listing.specs.AnswerText.{first_line}
use Rattle.writing.proofs.Putting.{put, wider, same_text}
use Rattle.why_listing.proofs.put_first.Goals as goal

-- a line's text has no more bytes than the line
short : (line : Line) (text : List ℕ) → line ≡ line_of text → length line.bytes ≡ line_width → length (take (line.length - 0) line.bytes) ≤ line_width
short line text made all =
    let long = line_long line text made in
    omega (arith, long, length-take-le (line.length - 0) line.bytes (omega (arith, long)))

pub slice_bounds-put-end : goal.slice_bounds-put-end
slice_bounds-put-end c = line_long c.first_line-first.result _ c.first_line-first.ensures.answer

pub put-requires : goal.put-requires
put-requires c = omega (arith, short c.first_line-first.result _ c.first_line-first.ensures.answer (search rules))

pub returns : goal.returns
returns c =
    let line = c.first_line-first.result in
    let made = c.first_line-first.ensures.answer in
    let written = put c.put.ensures.answer c.put.ensures.memory in
    record { written = wider line_width (short line _ made (search rules)) (same_text (line_part line _ made) written) }
