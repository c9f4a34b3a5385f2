-- `starts` keeps its contract register by register.
use Rattle.planning.proofs.CoverLaws.{starts_has}
use Rattle.planning.proofs.maps.starts.Goals as goal

pub returns : goal.returns
returns c = record { answer = starts_has c.args.map c.ranges.map.fits }
