-- One shifted up by the register is joined to the map.
use Rattle.std.proofs.Common.{sym, ap, ◌∙◌, bit_or}
use Rattle.bits.proofs.DigitLaws.{one_shl}
use Rattle.bus.proofs.KnownLaws.{mark_or}
use Rattle.bus.proofs.known.mark.Goals as goal

pub returns : goal.returns
returns c = record { answer = ap (bit_or c.args.map) (one_shl c.args.register 64 c.requires) ∙ sym (mark_or c.args.map c.args.register) }
