-- the count has room
use Rattle.std.proofs.Common.{arith}
use Rattle.text.proofs.Numerals.{decimal-most}
use Rattle.writing.proofs.Putting.{given}
use Rattle.writing.proofs.put_decimal.Goals as goal

pub returns : goal.returns
returns c = record { written = given (decimal-most 19 c.args.n (omega arith)) c.requires (cc) c.decimal.ensures.memory }
