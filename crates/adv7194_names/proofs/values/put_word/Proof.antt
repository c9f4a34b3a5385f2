-- `values::put_word` meets its contract: the number chooses the column. Assumes nothing.
use mathlib.Core.Path.{refl}
use native.Mathlib.Omega.{arith}
use Rattle.adv7194_names.specs.Names.{named}
use Rattle.adv7194_names.proofs.Choosing.{is_it, is_not, word-zero, word-one, word_none}
use Rattle.writing.proofs.Putting.{same_text, unwritten}
use borrow.Author.Rules.{rules}
use Rattle.adv7194_names.proofs.values.put_word.Statement.{statement}
use Rattle.adv7194_names.proofs.values.put_word.Tie as tie

returns : tie.Need-returns-then-n-eq0
returns c =
    let p = c in
    let t = c in
    let start = c in
    let a = start.args in
    same_text (word-zero (named a.field) a.n (is_it 0 a.n start.ranges.n refl t.if-n-eq0.true)) p.put_column.ensures

returns-2 : tie.Need-returns-then-n-eq1
returns-2 c =
    let p = c in
    let t = c in
    let start = c in
    let a = start.args in
    let e = word-one (named a.field) a.n (is_not 0 a.n refl t.if-n-eq0.false) (is_it 1 a.n start.ranges.n refl t.if-n-eq1.true) in
    same_text e p.put_column-then-n-eq1.ensures

returns-3 : tie.Need-returns
returns-3 c =
    let start = c in
    let a = start.args in
    let e = word_none (named a.field) a.n (is_not 0 a.n refl c.if-n-eq0.false) (is_not 1 a.n refl c.if-n-eq1.false) in
    same_text e (unwritten a.line.now a.at (omega (arith, start.requires)))

pub put_word_spec : {M : Type 1} → statement M
put_word_spec =
    tie.close
    (tie.spec
    (λ c κs. search rules)
    (λ c. search rules)
    returns
    (λ c κs. search rules)
    (λ c. search rules)
    returns-2
    returns-3)
