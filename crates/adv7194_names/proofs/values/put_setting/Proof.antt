-- `values::put_setting` meets its contract: the word, or where it is empty the number with its unit. Assumes nothing.
use mathlib.Core.List.{◌++◌}
use Prim.Native.Nat.{◌<◌, ◌≤◌}
use native.Mathlib.Omega.{arith}
use lib.IntN.{ℤ}
use lib.ListN.{length}
use Rattle.text.specs.Text.{signed}
use Rattle.writing.specs.Ascii.{ascii}
use Rattle.adv7194_names.specs.Names.{named}
use Rattle.adv7194_names.specs.Widths.{setting_width}
use Rattle.adv7194_names.specs.Values.{word_of}
use Rattle.adv7194_names.proofs.Choosing.{setting_word, setting_amount}
use Rattle.writing.proofs.Putting.{same_text, wider, passed, instead}
use borrow.Author.Rules.{rules}
use Rattle.adv7194_names.proofs.values.put_setting.Statement.{statement}
use Rattle.adv7194_names.proofs.values.put_setting.Tie as tie

returns : tie.Need-returns-then-at-word
returns c =
    let p = c in
    let start = c in
    let a = start.args in
    let w = passed (word_of (named a.field)) a.n start.ranges.n.sfits p.put_word-word.ensures in
    let some : 0 < length (word_of (named a.field) a.n) = omega (arith, w.answer, c.if-at-word.true) in
    same_text (setting_word (named a.field) a.n some) (wider setting_width (omega arith) w)

returns-2 : tie.Need-returns
returns-2 c =
    let q = c in
    let e = c in
    let p = c in
    let start = c in
    let a = start.args in
    let w = passed (word_of (named a.field)) a.n start.ranges.n.sfits p.put_word-word.ensures in
    let none : length (word_of (named a.field) a.n) ≤ 0 = omega (arith, w.answer, e.if-at-word.false) in
    let text = passed (λ (z : ℤ). signed z ++ ascii (named a.field).unit) a.n start.ranges.n.sfits q.put_amount.ensures in
    same_text (setting_amount (named a.field) a.n none) (instead w none (omega (arith, start.requires)) text)

pub put_setting_spec : {M : Type 1} → statement M
put_setting_spec =
    tie.close
    (tie.spec
    (λ c κs. search rules)
    (λ c. search rules)
    returns
    (λ c κs. search rules)
    (λ c. search rules)
    returns-2)
