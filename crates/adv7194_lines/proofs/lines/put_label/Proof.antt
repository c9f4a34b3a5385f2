-- `lines::put_label` meets its contract: number, space and name in a row. Assumes nothing.
use mathlib.Core.Path.{ap}
use mathlib.Core.List.{List, ◌++◌}
use Prim.Native.Nat.{ℕ}
use native.Mathlib.Omega.{arith}
use Rattle.text.specs.Text.{space, decimal}
use Rattle.adv7194_names.specs.Names.{named}
use Rattle.adv7194_lines.specs.Lines.{label_text}
use Rattle.adv7194_names.proofs.Choosing.{name-is}
use Rattle.writing.proofs.Putting.{put, same_text, more}
use borrow.Author.Rules.{rules}
use Rattle.adv7194_lines.proofs.lines.put_label.Statement.{statement}
use Rattle.adv7194_lines.proofs.lines.put_label.Tie as tie

returns : tie.Need-returns
unfolding label_text
returns c =
    let n = c in
    let s = c in
    let d = c in
    let start = c in
    let f = start.args.field in
    let w = more d.put_decimal-number.ensures (put s.put-spaced.ensures.0 s.put-spaced.ensures.1) (omega (arith, start.requires)) in
    same_text (ap (λ (t : List ℕ). decimal f ++ space ++ t) (name-is (named f))) (more w n.put_column.ensures start.requires)

pub put_label_spec : {M : Type 1} → statement M
put_label_spec =
    tie.close
    (tie.spec
    (λ c κs. search rules)
    (λ c κs. search rules)
    (λ c κs. search rules)
    (λ c. search rules)
    returns)
