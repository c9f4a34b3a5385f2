-- `faults::shown`: the bits of a field's row lie within a register. Assumes nothing.
use Rattle.adv7194_listing.proofs.FaultLaws.{field-bits}
use Rattle.adv7194_listing.proofs.faults.shown.Goals as goal

pub held-requires : goal.held-requires
held-requires c = field-bits c.args.field c.field_row.ensures.answer
