-- `list_images`: both images are read, and the text is that of what reading left. Assumes nothing.
use Rattle.std.proofs.Common.{◌≡◌, ◌∙◌, ◌&&◌, ap}
use Rattle.text.specs.Line.{place_after, appended}
use Rattle.adv7194_settings.specs.Held.{no_numbers}
use Rattle.compare_listing.proofs.TextLaws.{by_reading}
use Rattle.compare_listing.proofs.list_images.Goals as goal
use Rattle.compare_listing.proofs.list_images.Goals.{then-first, else-first}

pub returns : goal.returns
returns c =
    let s = c.args in
    let both : c.if-first.list_sides ≡ (c.taken-first.result && c.taken-second.result) =
    elim c.if-first.branch [ then-first w ↦ rw w.if-first.true w.list_sides-is | else-first w ↦ rw w.if-first.false (w.list_sides-is ∙ w.if-first.false) ] in
    let e = by_reading s.a.now s.b.now no_numbers no_numbers both c.taken-first.ensures.answer c.taken-second.ensures.answer
    c.taken-first.ensures.memory c.taken-second.ensures.memory in
    record {
      answer = c.list_sides.ensures.answer ∙ ap (place_after s.out.now 0) e;
      memory = c.list_sides.ensures.memory ∙ ap (appended s.out.now 0) e;
    }
