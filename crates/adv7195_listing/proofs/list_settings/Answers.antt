-- The part filled is the text, and is appended.
use Rattle.std.proofs.Common.{List, ℕ, ap, ◌∙◌, ◌≤◌, arith}
use Rattle.text.specs.Line.{place_after, appended}
use Rattle.writing.proofs.Putting.{part, kept, same_text}
use Rattle.template.specs.Template.{filled, widths}
use Rattle.adv7195_listing.specs.Listing.{text_width}
use Rattle.adv7195_listing.proofs.TextLaws.{lines-room}
use Rattle.adv7195_listing.proofs.list_settings.Goals as goal

pub fill-end-requires : goal.fill-end-requires
fill-end-requires c =
    let wide : widths c.lines-lines.result ≤ text_width = rw c.lines-lines.ensures.answer lines-room in
    (omega (arith, wide), omega arith)

pub slice_bounds-append-end : goal.slice_bounds-append-end
slice_bounds-append-end c =
    let wide : widths c.lines-lines.result ≤ text_width = rw c.lines-lines.ensures.answer lines-room in
    omega (arith, c.fill-end.ensures.written.most, kept c.fill-end.ensures.written, wide)

pub returns : goal.returns
returns c =
    let out = c.args.out.now in
    let wide : widths c.lines-lines.result ≤ text_width = rw c.lines-lines.ensures.answer lines-room in
    let w = same_text (ap (λ (t : List ℕ). filled t c.args.numbers.now) c.lines-lines.ensures.answer) c.fill-end.ensures.written in
    let e = part w (omega (arith, wide)) in
    record {
      answer = c.append.ensures.answer ∙ ap (place_after out 0) e;
      memory = c.append.ensures.memory ∙ ap (appended out 0) e;
      most = omega (arith, w.answer, w.most, wide);
    }
