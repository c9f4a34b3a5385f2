-- `curves::put_code` meets its contract: a refusal puts nothing.
use Rattle.field_table.specs.Writes.{puts}
use Rattle.field_table.specs.Blocks.{byte_writes}
use Rattle.adv7194_wanted.proofs.curves.put_code.Goals as goal

pub returns-in_default : goal.returns-in_default
unfolding puts byte_writes
returns-in_default c = record { memory = rw c.in_default.is }
