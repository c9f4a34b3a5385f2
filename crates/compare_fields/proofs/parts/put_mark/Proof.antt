-- `parts::put_mark` meets its contract: nothing, or the mark. Assumes nothing.
use mathlib.Core.Path.{sym, ap}
use mathlib.Core.Bool.{Bool, cond}
use mathlib.Core.List.{[]}
use native.Mathlib.Omega.{arith}
use borrow.Author.Rules.{rules}
use Rattle.writing.proofs.Putting.{put, same_text, unwritten}
use Rattle.writing.specs.Ascii.{ascii}
use Rattle.compare_fields.proofs.parts.put_mark.Statement.{statement}
use Rattle.compare_fields.proofs.parts.put_mark.Tie as tie

returns : tie.Need-returns-then-readable
returns c =
    let start = c in
    same_text (sym (ap (λ (b : Bool). cond b [] (ascii " raw")) c.if-readable.true))
    (unwritten start.args.line.now start.args.at (omega (arith, start.requires)))

returns-2 : tie.Need-returns
returns-2 c =
    let p = c in
    let e = c in
    same_text (sym (ap (λ (b : Bool). cond b [] (ascii " raw")) e.if-readable.false)) (put p.put.ensures.0 p.put.ensures.1)

pub put_mark_spec : {M : Type 1} → statement M
put_mark_spec = tie.close (tie.spec
    returns
    (λ c κs. search rules)
    (λ c. search rules)
    returns-2)
