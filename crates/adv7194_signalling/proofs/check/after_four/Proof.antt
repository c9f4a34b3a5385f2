-- `check::after_four` meets its contract, by one computed test over the registers and the bits. Assumes nothing.
use mathlib.Core.Bool.{xor}
use Prim.Native.Nat.{ℕ, ◌*◌, ◌/◌}
use lib.Bits.{bit_xor}
use borrow.Author.Rules.{rules}
use Rattle.bits.specs.Strings.{lsb_first, msb_first, lsb_value}
use Rattle.adv7194_signalling.specs.Check.{after_bit}
use Rattle.adv7194_signalling.proofs.CheckLaws.{Goes, by_feedback}
use Rattle.adv7194_signalling.proofs.check.after_four.Statement.{statement}
use Rattle.adv7194_signalling.proofs.check.after_four.Tie as tie

-- the register by the feedback of four bits
abbrev step : ℕ → ℕ → ℕ
step check feedback = bit_xor (bit_xor (check / 16) (feedback * 2)) (feedback * 4)

-- computed at each register and each four bits
test : Goes 4 step
unfolding after_bit xor lsb_first msb_first lsb_value
test = tt

returns : tie.Need-returns
returns c = by_feedback 4 step test c.args.check c.args.bits c.requires

pub after_four_spec : {M : Type 1} → statement M
after_four_spec = tie.close (tie.spec
    (λ c. search rules)
    (λ c. search rules)
    returns)
