-- The count decides as the definition does.
use Rattle.std.proofs.Common.{sym, ◌∙◌, arith}
use Rattle.bits.proofs.DigitLaws.{one_shl}
use Rattle.bits.proofs.ParityLaws.{parity_clear, parity_set}
use Rattle.bits.proofs.parity.with_parity.Goals as goal

pub returns-then-odd_ones : goal.returns-then-odd_ones
returns-then-odd_ones c =
    record { answer = sym (parity_clear c.args.width c.args.value (sym c.odd_ones.ensures.answer ∙ c.if-odd_ones.true)) }

pub returns : goal.returns
returns c =
    record {
      answer = rw (one_shl c.args.width 8 (omega arith)) (sym (parity_set c.args.width c.args.value (sym c.odd_ones.ensures.answer ∙ c.if-odd_ones.false)));
    }
