-- `write_sides` meets its contract: the count, the fields' lines and the registers' in a row. Assumes nothing.
use mathlib.Core.Path.{ap}
use native.Mathlib.Omega.{arith}
use borrow.Author.Rules.{rules}
use Rattle.writing.proofs.Putting.{more, wider, same_text}
use Rattle.compare_listing.specs.Widths.{text_width}
use Rattle.compare_listing.specs.CompareText.{count_line, side_text}
use Rattle.compare_listing.proofs.write_sides.Statement.{statement}
use Rattle.compare_listing.proofs.write_sides.Tie as tie

returns : tie.Need-returns
unfolding side_text count_line
returns c =
    let r = c in
    let f = c in
    let p = c in
    let n = c in
    let h = n.requires in
    let first = same_text (ap count_line n.count.ensures) p.put_counted-counted.ensures in
    wider text_width (omega arith) (more (more first f.field_lines-listed.ensures (omega arith)) r.register_lines.ensures (omega arith))

pub write_sides_spec : {M : Type 1} → statement M
write_sides_spec =
    tie.close
    (tie.spec
    (λ c κs. search rules)
    (λ c κs. search rules)
    (λ c κs. search rules)
    (λ c κs. search rules)
    (λ c. search rules)
    returns)
