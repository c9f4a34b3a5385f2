-- `parts::put_side` meets its contract: a space and the setting, or the raw code. Assumes nothing.
use mathlib.Core.Path.{sym, ap}
use mathlib.Core.Bool.{Bool}
use native.Mathlib.Omega.{arith}
use borrow.Author.Rules.{rules}
use Rattle.writing.proofs.Putting.{put, more, wider, same_text}
use Rattle.compare_fields.specs.Widths.{side_width}
use Rattle.compare_fields.specs.Values.{side_of}
use Rattle.compare_fields.proofs.parts.put_side.Statement.{statement}
use Rattle.compare_fields.proofs.parts.put_side.Tie as tie

returns : tie.Need-returns-then-readable
returns c =
    let v = c in
    let p = c in
    let t = c in
    let start = c in
    let a = start.args in
    same_text (sym (ap (λ (b : Bool). side_of b a.image.now a.numbers.now a.field) t.if-readable.true))
    (wider side_width (omega arith) (more (put p.put-spaced.ensures.0 p.put-spaced.ensures.1) v.put_value.ensures (omega (arith, start.requires.0))))

returns-2 : tie.Need-returns
returns-2 c =
    let v = c in
    let e = c in
    let a = e.args in
    same_text (sym (ap (λ (b : Bool). side_of b a.image.now a.numbers.now a.field) e.if-readable.false)) v.put_raw.ensures

pub put_side_spec : {M : Type 1} → statement M
put_side_spec =
    tie.close
    (tie.spec
    (λ c κs. search rules)
    (λ c κs. search rules)
    (λ c. search rules)
    returns
    (λ c κs. search rules)
    (λ c. search rules)
    returns-2)
