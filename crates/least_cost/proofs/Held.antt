-- Transactions that hold wanted bytes: their data are bytes, and a list that touches what a chip holds otherwise ends in the wanted registers. Assumes
-- nothing.
use mathlib.Core.Path.{◌≡◌, refl}
use mathlib.Core.Logic.{◌⊎◌}
use mathlib.Core.Bool.{Bool, true, false}
use mathlib.Core.List.{List}
use Prim.Native.Nat.{ℕ, ◌+◌, ◌-◌, ◌^◌, ◌<◌}
use native.Mathlib.Omega.{arith}
use lib.Dec.{ltb}
use lib.ListN.{length, get_or, get_or-eq_default}
use lib.Seq.{ext_get_or}
use borrow.Author.Tests.{ltb-true, ltb-false}
use Rattle.bus.specs.Transactions.{Transaction, size, Touched}
use Rattle.bus.specs.Chip.{Kind, Chip}
use Rattle.bus.specs.Run.{after}
use Rattle.bus.proofs.Play.{Kept}
use Rattle.bus.proofs.After.{length-after}
use Rattle.least_cost.specs.Order.{Holds}
use Rattle.least_cost.proofs.Ends.{ends_in}
use Rattle.bits.specs.Lists.{Every}

-- data that are wanted bytes are bytes
pub holds-bytes : (want : ℕ → ℕ) → ((x : ℕ) → want x < 2 ^ 8) → (t : Transaction) → Holds want t → (i : ℕ) → get_or t.bytes i 0 < 2 ^ 8
holds-bytes want b t h i = split (ltb i (size t)) refl
  where
    split : (a : Bool) → ltb i (size t) ≡ a → get_or t.bytes i 0 < 2 ^ 8
    split true e =
        let d = ltb-true i (size t) e in
        let q : t.subaddress + i - t.subaddress ≡ i = omega arith in
        rw (← (rw q at (h (t.subaddress + i) (omega arith)))) at (b (t.subaddress + i))
    split false e = let d = ltb-false i (size t) e in rw (get_or-eq_default t.bytes 0 d) (omega arith)

-- a list that holds the wanted bytes and touches each register in which the chip holds another ends in the wanted registers
pub ends-wanted : (κ : Kind) (wanted : List ℕ) (ts : List Transaction) (c : Chip) → length c.registers ≡ length wanted → Every (Kept κ) ts
    → Every (Holds (λ r. get_or wanted r 0)) ts
    → ((r : ℕ) → r < length wanted → Touched ts r ⊎ (get_or c.registers r 0 ≡ get_or wanted r 0))
    → (after κ c ts).registers ≡ wanted
ends-wanted κ wanted ts c n kept holds f =
    let m = length-after κ ts c in
    ext_get_or 0 (after κ c ts).registers wanted (omega arith)
    (λ r g. ends_in κ (λ x. get_or wanted x 0) ts c r kept holds (omega arith) (f r (omega arith)))
