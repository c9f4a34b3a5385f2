-- Document 01, "Packing": a plan that is accepted, and its transactions.
use Rattle.std.specs.Prelude.{◌≡◌, List, [], ℕ}
use Rattle.refusals.specs.Refusal.{Judged, accepted, value_or}
use Rattle.bus.specs.Transactions.{Transaction}
use Rattle.unpacking.specs.Unpacking.{unpack}

-- the transactions of a plan that was accepted
abbrev pub listed : Judged (List Transaction) → List Transaction
listed j = value_or [] j

-- the plan is well-formed
abbrev pub Accepted : List ℕ → Type 0
Accepted plan = unpack plan ≡ accepted (listed (unpack plan))
