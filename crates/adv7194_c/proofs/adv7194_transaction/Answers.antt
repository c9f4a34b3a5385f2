-- `adv7194_transaction`: what a packed plan unpacks to is what its bytes say.
use Rattle.packing.specs.Packing.{behind}
use Rattle.unpacking.proofs.Exact.{judges}
use Rattle.adv7194_c.proofs.adv7194_transaction.Goals as goal

pub returns-clause-unpacked : goal.returns-clause-unpacked
returns-clause-unpacked c = judges behind c.args.plan.now
