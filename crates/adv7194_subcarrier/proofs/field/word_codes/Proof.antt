-- `field::word_codes` meets its contract: the bytes are the word's. Assumes nothing.
use mathlib.Core.Path.{ap, ap₂, ◌∙◌}
use lib.IntN.{ℤ}
use mir.Syntax.{w32}
use mir.ValLaws.{to_z-of_z}
use borrow.Author.Rules.{rules}
use Rattle.field_table.specs.Blocks.{is}
use Rattle.adv7194_subcarrier.specs.Subcarrier.{word_of, word_bytes, word_codes}
use Rattle.adv7194_subcarrier.proofs.field.word_codes.Statement.{statement}
use Rattle.adv7194_subcarrier.proofs.field.word_codes.Tie as tie

returns : tie.Need-returns
unfolding word_codes
returns c =
    let s = c in
    ap word_bytes
    (c.word_set-w.ensures
    ∙ ap₂ (λ (x y : ℤ). word_of (is 1 x) (is 1 y)) (to_z-of_z w32 s.args.standard s.ranges.standard)
    (to_z-of_z w32 s.args.square s.ranges.square))

pub word_codes_spec : {M : Type 1} → statement M
word_codes_spec = tie.close (tie.spec
    (λ c κs. search rules)
    (λ c. search rules)
    (λ c. search rules)
    (λ c. search rules)
    (λ c. search rules)
    returns)
