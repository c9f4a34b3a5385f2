-- One shifted by the width is two to the width, and the machine's count is the definition's.
use Rattle.bits.proofs.DigitLaws.{one_shl}
use Rattle.bits.proofs.ParityLaws.{odd_count}
use Rattle.bits.proofs.parity.odd_ones.Goals as goal

pub returns : goal.returns
returns c = record { answer = rw (one_shl c.args.width 32 c.requires) (odd_count c.args.width c.args.value) }
