-- `lines::register_line` meets its contract: the register's line where it differs, else nothing. Assumes nothing.
use native.Mathlib.Omega.{arith}
use borrow.Author.Rules.{rules}
use Rattle.writing.proofs.Putting.{same_text, unwritten}
use Rattle.compare_fields.proofs.LineLaws.{line_shown, line_left_out}
use Rattle.compare_listing.proofs.lines.register_line.Statement.{statement}
use Rattle.compare_listing.proofs.lines.register_line.Tie as tie

returns : tie.Need-returns-then-register_differs
returns c =
    let x = c in
    let t = c in
    same_text (line_shown _ t.register_differs.ensures t.if-register_differs.true) x.register_text.ensures

returns-2 : tie.Need-returns
returns-2 c =
    let start = c in
    same_text (line_left_out _ c.register_differs.ensures c.if-register_differs.false) (unwritten start.args.line.now
    start.args.at (omega (arith, start.requires.0)))

pub register_line_spec : {M : Type 1} → statement M
register_line_spec =
    tie.close (tie.spec
    (λ c κs. search rules)
    (λ c κs. search rules)
    (λ c. search rules)
    returns
    returns-2)
