-- `field_line` meets its contract: the field's line where it differs, else nothing. Assumes nothing.
use native.Mathlib.Omega.{arith}
use borrow.Author.Rules.{rules}
use Rattle.writing.proofs.Putting.{same_text, unwritten}
use Rattle.compare_fields.proofs.LineLaws.{line_shown, line_left_out}
use Rattle.compare_fields.proofs.field_line.Statement.{statement}
use Rattle.compare_fields.proofs.field_line.Tie as tie

returns : tie.Need-returns-then-field_differs
returns c =
    let x = c in
    let t = c in
    same_text (line_shown _ t.field_differs.ensures t.if-field_differs.true) x.field_text.ensures

returns-2 : tie.Need-returns
returns-2 c =
    let start = c in
    same_text (line_left_out _ c.field_differs.ensures c.if-field_differs.false) (unwritten start.args.line.now
    start.args.at (omega (arith, start.requires.0)))

pub field_line_spec : {M : Type 1} → statement M
field_line_spec =
    tie.close (tie.spec
    (λ c κs. search rules)
    (λ c κs. search rules)
    (λ c. search rules)
    returns
    returns-2)
