-- `adv7194_subcarrier::word` meets its contract: the standard and square pixel that were given are those of the call. Assumes nothing.
use borrow.Author.Rules.{rules}
use Rattle.adv7194_subcarrier.proofs.word.Statement.{statement}
use Rattle.adv7194_subcarrier.proofs.word.Tie as tie

pub word_spec : {M : Type 1} → statement M
word_spec =
    tie.close
    (tie.spec
    (λ c. search rules)
    (λ c κs. search rules)
    (λ c κs. search rules)
    (λ c. search rules)
    (λ c κs. search rules)
    (λ c κs. search rules)
    (λ c. rw (c.in-Ntsc.is, c.if-square.true) c.nearest_word.ensures)
    (λ c. rw (c.in-Ntsc.is, c.if-square.false) c.nearest_word-else-square.ensures)
    (λ c. rw (c.in-Pal.is, c.if-square-2.true) c.nearest_word-then-square-2.ensures)
    (λ c. rw (c.in-Pal.is, c.if-square-2.false) c.nearest_word-else-square-2.ensures))
