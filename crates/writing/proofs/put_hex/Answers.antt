-- the two digits have room
use Rattle.std.proofs.Common.{arith}
use Rattle.text.proofs.Numerals.{hex_length}
use Rattle.writing.proofs.Putting.{given}
use Rattle.writing.proofs.put_hex.Goals as goal

pub returns : goal.returns
returns c = record { written = given (omega (arith, hex_length c.args.b)) c.requires (cc) c.hex_byte.ensures.memory }
