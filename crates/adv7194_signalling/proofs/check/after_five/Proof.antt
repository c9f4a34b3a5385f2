-- `check::after_five` meets its contract, by one computed test over the registers and the bits. Assumes nothing.
use mathlib.Core.Bool.{xor}
use Prim.Native.Nat.{ℕ, ◌*◌, ◌/◌}
use lib.Bits.{bit_xor}
use borrow.Author.Rules.{rules}
use Rattle.bits.specs.Strings.{lsb_first, msb_first, lsb_value}
use Rattle.adv7194_signalling.specs.Check.{after_bit}
use Rattle.adv7194_signalling.proofs.CheckLaws.{Goes, by_feedback}
use Rattle.adv7194_signalling.proofs.check.after_five.Statement.{statement}
use Rattle.adv7194_signalling.proofs.check.after_five.Tie as tie

-- the register by the feedback of five bits
abbrev step : ℕ → ℕ → ℕ
step check feedback = bit_xor (bit_xor (check / 32) feedback) (feedback * 2)

-- computed at each register and each five bits
test : Goes 5 step
unfolding after_bit xor lsb_first msb_first lsb_value
test = tt

returns : tie.Need-returns
returns c = by_feedback 5 step test c.args.check c.args.bits c.requires

pub after_five_spec : {M : Type 1} → statement M
after_five_spec = tie.close (tie.spec
    (λ c. search rules)
    returns)
