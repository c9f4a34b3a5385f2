-- Where any order and overlap are allowed, transactions that the packing can hold come back from it. Assumes nothing.
use mathlib.Core.Path.{◌≡◌}
use mathlib.Core.Bool.{◌&&◌}
use mathlib.Core.List.{List, [], ◌∷◌}
use Prim.Native.Nat.{◌<◌}
use native.Mathlib.Omega.{arith}
use lib.Dec.{T, leb, ltb, le→leb, lt→ltb}
use lib.ListN.{length}
use Rattle.bits.proofs.FlagLaws.{both}
use Rattle.refusals.specs.Refusal.{accepted}
use Rattle.bus.specs.Transactions.{Transaction}
use Rattle.packing.specs.Packing.{packed, encodable, anywhere, arranged, well_formed_by}
use Rattle.unpacking.specs.Unpacking.{unpack_by}
use Rattle.unpacking.proofs.Tests.{Encodable, encodable_from}
use Rattle.unpacking.proofs.Exact.{packed_unpacks}
use Rattle.bits.specs.Lists.{Every}

-- they are arranged in any order
anywhere-arranged : (ts : List Transaction) → Every Encodable ts → T (arranged anywhere 0 ts)
unfolding arranged
anywhere-arranged [] e = tt
anywhere-arranged (t ∷ ts) e =
    both (leb 0 t.subaddress) (encodable t && arranged anywhere 0 ts) (le→leb 0 t.subaddress (omega arith))
    (both (encodable t) (arranged anywhere 0 ts) (encodable_from t e.0) (anywhere-arranged ts e.1))

-- so unpacking gives them again, where they are no more than a count can hold
pub round_trip_anywhere : (ts : List Transaction) → length ts < 64 → Every Encodable ts → unpack_by anywhere (packed ts) ≡ accepted ts
unfolding well_formed_by
round_trip_anywhere ts few e =
    packed_unpacks anywhere ts (both (ltb (length ts) 64) (arranged anywhere 0 ts) (lt→ltb (length ts) 64 few) (anywhere-arranged ts e))
