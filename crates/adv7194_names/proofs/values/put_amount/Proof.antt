-- `values::put_amount` meets its contract: the number and its unit in a row. Assumes nothing.
use mathlib.Core.Path.{ap}
use mathlib.Core.List.{List, ◌++◌}
use Prim.Native.Nat.{ℕ}
use Rattle.text.specs.Text.{signed}
use Rattle.adv7194_names.specs.Names.{named}
use Rattle.adv7194_names.proofs.Choosing.{unit-is}
use Rattle.writing.proofs.Putting.{same_text, more, passed}
use borrow.Author.Rules.{rules}
use Rattle.adv7194_names.proofs.values.put_amount.Statement.{statement}
use Rattle.adv7194_names.proofs.values.put_amount.Tie as tie

returns : tie.Need-returns
returns c =
    let u = c in
    let s = c in
    let start = c in
    let a = start.args in
    let w = more (passed signed a.n start.ranges.n.sfits s.put_signed-number.ensures) u.put_column.ensures start.requires in
    same_text (ap (λ (t : List ℕ). signed a.n ++ t) (unit-is (named a.field))) w

pub put_amount_spec : {M : Type 1} → statement M
put_amount_spec = tie.close (tie.spec
    (λ c κs. search rules)
    (λ c κs. search rules)
    (λ c. search rules)
    returns)
