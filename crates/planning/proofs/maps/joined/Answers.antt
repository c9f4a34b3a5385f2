-- `joined` keeps its contract register by register.
use Rattle.planning.proofs.CoverLaws.{joined-has}
use Rattle.planning.proofs.maps.joined.Goals as goal

pub returns : goal.returns
returns c = record { answer = joined-has c.args.needed c.args.allowed }
