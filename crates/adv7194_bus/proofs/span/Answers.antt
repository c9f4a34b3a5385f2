-- Neither shift loses a bit.
use Rattle.std.proofs.Common.{arith}
use lib.Pow.{ones_lt, shl_exact}
use Rattle.bits.proofs.DigitLaws.{one_shl}
use Rattle.adv7194_bus.proofs.span.Goals as goal

pub returns : goal.returns
returns c =
    let count = c.args.count in
    record { answer = rw (one_shl count 64 (omega arith)) (shl_exact count c.args.start 64 (ones_lt count) (omega arith)) }
