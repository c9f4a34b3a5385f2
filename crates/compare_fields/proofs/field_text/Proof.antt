-- `field_text` meets its contract: number and name, the two sides and what stands between them in a row. Assumes nothing.
use native.Mathlib.Omega.{arith}
use borrow.Author.Rules.{rules}
use Rattle.writing.proofs.Putting.{put, more, wider}
use Rattle.compare_fields.specs.Widths.{field_width}
use Rattle.compare_fields.specs.FieldLines.{field_line}
use Rattle.compare_fields.proofs.field_text.Statement.{statement}
use Rattle.compare_fields.proofs.field_text.Tie as tie

returns : tie.Need-returns
unfolding field_line
returns c =
    let e = c in
    let s = c in
    let b = c in
    let f = c in
    let m = c in
    let l = c in
    let h = l.requires.0 in
    let first = more (more l.put_label-label.ensures m.put_mark-mark.ensures (omega arith)) f.put_side-first.ensures (omega arith) in
    let second = more (more first (put b.put-bar.ensures.0 b.put-bar.ensures.1) (omega arith)) s.put_side-second.ensures (omega arith) in
    wider field_width (omega arith) (more second (put e.put.ensures.0 e.put.ensures.1) (omega arith))

pub field_text_spec : {M : Type 1} → statement M
field_text_spec =
    tie.close
    (tie.spec
    (λ c κs. search rules)
    (λ c κs. search rules)
    (λ c κs. search rules)
    (λ c κs. search rules)
    (λ c κs. search rules)
    (λ c κs. search rules)
    (λ c. search rules)
    returns)
