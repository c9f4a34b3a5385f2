-- `adv7195_transaction`: what a packed plan unpacks to is what its bytes say.
use Rattle.packing.specs.Packing.{anywhere}
use Rattle.unpacking.proofs.Exact.{judges}
use Rattle.adv7195_c.proofs.adv7195_transaction.Goals as goal

pub returns-clause-unpacked : goal.returns-clause-unpacked
returns-clause-unpacked c = judges anywhere c.args.plan.now
