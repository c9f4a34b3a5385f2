-- `header_at`: three bytes hold the two fields.
use Rattle.std.proofs.Common.{◌+◌}
use Rattle.unpacking.proofs.PlaceLaws.{header_took}
use Rattle.unpacking.proofs.places.header_at.Goals as goal

pub returns : goal.returns
returns c = record {
  answer = header_took c.args.plan.now c.args.place c.requires.0 c.requires.1 (c.type_inv.plan c.args.place.at).fits (c.type_inv.plan (c.args.place.at + 1)).fits;
}
