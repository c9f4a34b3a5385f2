-- `covered`: two registers back are enough.
use Rattle.planning.proofs.CoverLaws.{covered_has}
use Rattle.planning.proofs.maps.covered.Goals as goal

pub returns : goal.returns
returns c = record { answer = covered_has c.args.needed c.args.allowed c.joined-joining.result c.joined-joining.type_inv c.joined-joining.ensures.answer }
