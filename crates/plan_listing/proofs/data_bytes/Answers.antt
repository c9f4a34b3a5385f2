-- A well-formed plan is the packing of its list: a byte for each datum, and those of the count and the headers.
use Rattle.std.proofs.Common.{◌≡◌, ◌+◌, ◌*◌, ◌/◌, ℕ, List, ap, length, arith}
use Rattle.bus.specs.Cost.{data_count}
use Rattle.bus.proofs.CostLaws.{bytes_count}
use Rattle.packing.specs.Packing.{behind}
use Rattle.packing.proofs.PackedLaws.{packed-length}
use Rattle.unpacking.specs.Listed.{listed, Accepted}
use Rattle.unpacking.specs.Unpacking.{unpack}
use Rattle.unpacking.proofs.Exact.{unpacks_packed}
use Rattle.plan_listing.proofs.data_bytes.Goals as goal

all : (plan : List ℕ) (transactions : ℕ) → Accepted plan → length (listed (unpack plan)) ≡ transactions
    → length plan ≡ data_count (listed (unpack plan)) + (6 + 12 * transactions + 7) / 8
all plan transactions h e =
    let ts = listed (unpack plan) in
    omega (arith, ap length (unpacks_packed behind plan ts h).1, packed-length ts, bytes_count ts, e)

pub overflow_sub-result : goal.overflow_sub-result
overflow_sub-result c = omega (arith, all c.args.plan.now c.args.transactions c.requires.0 c.requires.1, c.div_ceil.ensures)

pub returns-clause-answer : goal.returns-clause-answer
returns-clause-answer c = omega (arith, all c.args.plan.now c.args.transactions c.requires.0 c.requires.1, c.div_ceil.ensures)

pub returns-clause-most : goal.returns-clause-most
returns-clause-most c = omega (arith, all c.args.plan.now c.args.transactions c.requires.0 c.requires.1, c.div_ceil.ensures)
