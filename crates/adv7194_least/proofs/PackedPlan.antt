-- The packed plan unpacks to the plan, and its numbers are the plan's. Assumes nothing.
use mathlib.Core.Path.{◌≡◌, refl}
use mathlib.Core.Bool.{◌&&◌}
use mathlib.Core.List.{List, [], ◌∷◌}
use Prim.Native.Nat.{ℕ}
use native.Mathlib.Omega.{arith}
use lib.Dec.{T, leb, le→leb}
use lib.ListN.{length}
use Rattle.bits.proofs.FlagLaws.{both}
use Rattle.refusals.specs.Refusal.{accepted}
use Rattle.bus.specs.Transactions.{Transaction, end, bus_bytes}
use Rattle.packing.specs.Packing.{packed, encodable, arranged, ascending, behind, Packs}
use Rattle.unpacking.specs.Unpacking.{unpack, CountedBy}
use Rattle.unpacking.proofs.Tests.{Encodable, encodable_from}
use Rattle.unpacking.proofs.Exact.{round_trip, unpacks_packed}
use Rattle.adv7194_bus.specs.Kind.{register_count}
use Rattle.least_cost.specs.Order.{Ascending}
use Rattle.adv7194_least.specs.Aim.{Aim, must}
use Rattle.adv7194_least.specs.Change.{Change}
use Rattle.adv7194_least.specs.Plan.{may, byte_of, plan_of}
use Rattle.adv7194_least.proofs.Differing.{permits}
use Rattle.adv7194_least.proofs.Keeping.{right-encodable}
use Rattle.adv7194_least.proofs.Reached.{plan-each, plan-inside}
use Rattle.adv7194_least.proofs.Costs.{plan-ascending}
use Rattle.bits.specs.Lists.{Every}

-- encodable transactions that ascend pass the packing's test
ascends : (free : ℕ) (ts : List Transaction) → Ascending free ts → Every Encodable ts → T (ascending free ts)
unfolding arranged
ascends free [] a e = tt
ascends free (t ∷ ts) a e =
    both (leb free t.subaddress) (encodable t && ascending (end t) ts) (le→leb free t.subaddress a.0)
    (both (encodable t) (ascending (end t) ts) (encodable_from t e.0) (ascends (end t) ts a.1 e.1))

module _ (a : Aim) (χ : Change a) where
  -- the packed plan unpacks to the plan
  pub plan_unpacks : unpack (packed (plan_of a)) ≡ accepted (plan_of a)
  plan_unpacks =
      (round_trip register_count (omega arith) (plan_of a)
      (ascends 0 (plan_of a) (plan-ascending a χ)
      (plan-each a χ Encodable (right-encodable a.limit (must a) (may a) (permits a χ) (byte_of a) χ.wants.bytes)))
      (plan-inside a χ)
      ).0

  -- so it packs the plan
  pub plan-packs : Packs behind (packed (plan_of a)) (plan_of a)
  plan-packs = unpacks_packed behind (packed (plan_of a)) (plan_of a) plan_unpacks

  -- its numbers are the plan's
  pub plan-counted : (let ts = plan_of a in CountedBy behind (packed ts) (length (packed ts)) (length ts) (bus_bytes ts))
  plan-counted = record { list = plan_of a; packs = plan-packs; size_is = refl; transactions_are = refl; bytes_are = refl }
