-- `words::put_changed` meets its contract: the field's name and the word in a row. Assumes nothing.
use mathlib.Core.Path.{ap}
use mathlib.Core.List.{List, ◌++◌}
use Prim.Native.Nat.{ℕ}
use native.Mathlib.Omega.{arith}
use borrow.Author.Rules.{rules}
use Rattle.writing.specs.Ascii.{ascii}
use Rattle.adv7194_names.specs.Names.{named}
use Rattle.adv7194_names.proofs.Choosing.{name-is}
use Rattle.writing.proofs.Putting.{put, more, wider, same_text}
use Rattle.why_lines.specs.RegisterLine.{reason_text}
use Rattle.why_lines.specs.RegisterLine.{reason_width}
use Rattle.why_lines.proofs.words.put_changed.Statement.{statement}
use Rattle.why_lines.proofs.words.put_changed.Tie as tie

returns : tie.Need-returns
unfolding reason_text
returns c =
    let p = c in
    let n = c in
    let start = c in
    let h = start.requires in
    let w = more n.put_column-name.ensures (put p.put.ensures.0 p.put.ensures.1) (omega arith) in
    wider reason_width (omega arith) (same_text (ap (λ (t : List ℕ). t ++ ascii " changed") (name-is (named start.args.field))) w)

pub put_changed_spec : {M : Type 1} → statement M
put_changed_spec =
    tie.close
    (tie.spec
    (λ c κs. search rules)
    (λ c κs. search rules)
    (λ c. search rules)
    returns)
