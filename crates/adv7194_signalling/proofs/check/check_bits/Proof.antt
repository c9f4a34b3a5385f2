-- `check::check_bits` meets its contract: the payload's bits are put to the register in steps of five, five and four. Assumes nothing.
use mathlib.Core.Path.{◌∙◌}
use borrow.Author.Rules.{rules}
use Rattle.adv7194_signalling.proofs.CheckLaws.{reversed-lt, check_reversed}
use Rattle.adv7194_signalling.proofs.check.check_bits.Statement.{statement}
use Rattle.adv7194_signalling.proofs.check.check_bits.Tie as tie

after-five-requires-2 : tie.Need-after_five-ten-requires
after-five-requires-2 c κs = rw c.after_five-five.ensures (reversed-lt _)

after-four-requires : tie.Need-after_four-requires
after-four-requires c κs = rw c.after_five-ten.ensures (reversed-lt _)

returns : tie.Need-returns
returns c =
    let five = c.after_five-five in
    let ten = c.after_five-ten in
    c.after_four.ensures ∙ check_reversed c.args.payload five.result ten.result five.ensures ten.ensures

pub check_bits_spec : {M : Type 1} → statement M
check_bits_spec = tie.close (tie.spec
    (λ c κs. search rules)
    after-five-requires-2
    after-four-requires
    returns)
