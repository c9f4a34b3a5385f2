-- `field::word_set` meets its contract: the tests of the two settings are the definition's. Assumes nothing.
use mathlib.Core.Path.{sym, ap₂, ◌∙◌}
use lib.Dec.{lit<}
use borrow.Author.Rules.{rules}
use Rattle.field_table.proofs.Signed.{is-bits, is_same, is_other}
use Rattle.adv7194_subcarrier.specs.Subcarrier.{word_of}
use Rattle.adv7194_subcarrier.proofs.field.word_set.Statement.{statement}
use Rattle.adv7194_subcarrier.proofs.field.word_set.Tie as tie

returns : tie.Need-returns-then-standard-eq-PAL
returns c =
    let s = c in
    let pal = is_same 1 s.args.standard (lit< tt) s.ranges.standard.sfits c.if-standard-eq-PAL.true in
    c.word.ensures.0 ∙ ap₂ word_of (sym pal) (is-bits 1 s.args.square (lit< tt) s.ranges.square.sfits)

returns-2 : tie.Need-returns
returns-2 c =
    let s = c in
    let other = is_other 1 s.args.standard (lit< tt) s.ranges.standard.sfits c.if-standard-eq-PAL.false in
    c.word-2.ensures.0 ∙ ap₂ word_of (sym other) (is-bits 1 s.args.square (lit< tt) s.ranges.square.sfits)

pub word_set_spec : {M : Type 1} → statement M
word_set_spec = tie.close (tie.spec
    (λ c κs. search rules)
    returns
    (λ c κs. search rules)
    returns-2)
