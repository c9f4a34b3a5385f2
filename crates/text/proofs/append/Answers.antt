-- a text that fits is written by `put`, any other leaves the line
use Rattle.std.proofs.Common.{◌∙◌, sym, ap, Some}
use borrow.Author.Tests.{leb-true, leb-false}
use Rattle.text.proofs.Appending.{placed, unplaced, unwritten}
use Rattle.text.proofs.append.Goals as goal

pub returns-then-fits-clause-answer : goal.returns-then-fits-clause-answer
returns-then-fits-clause-answer c =
    ap Some c.put.ensures.answer ∙ sym (placed c.args.line.now c.args.at c.args.text.now (leb-true _ _ (sym c.if-fits.ensures.answer)))

pub returns-clause-answer : goal.returns-clause-answer
returns-clause-answer c = sym (unplaced c.args.line.now c.args.at c.args.text.now (leb-false _ _ (sym c.if-fits.ensures.answer)))

pub returns-clause-memory : goal.returns-clause-memory
returns-clause-memory c = sym (unwritten c.args.line.now c.args.at c.args.text.now (leb-false _ _ (sym c.if-fits.ensures.answer)))
