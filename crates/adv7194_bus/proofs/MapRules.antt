-- The three rules as a test on the map of the registers that a transaction touches: the two tests are computed and compared at every subaddress
-- and data count that end within the registers. Assumes nothing.
use mathlib.Core.Path.{◌≡◌}
use mathlib.Core.Bool.{Bool, ◌&&◌, ◌||◌}
use Prim.Native.Nat.{ℕ, ◌+◌, ◌-◌, ◌*◌, ◌^◌, ◌≤◌}
use native.Mathlib.Omega.{arith}
use lib.Bits.{bit_and}
use lib.Dec.{eqb}
use Rattle.adv7194_bus.specs.Kind.{register_count}
use Rattle.adv7194_bus.specs.Rules.{keeps_rules}
use Rattle.bits.proofs.Checks.{agrees, same_bool, below, at-below}

-- the maps as the code has them
abbrev barred : ℕ
barred = 0x100000001E0000

abbrev word : ℕ
word = 0xF000

-- the map of count registers from start on
abbrev span : ℕ → ℕ → ℕ
span start count = (2 ^ count - 1) * 2 ^ start

-- a map has no barred register, and of the word's none or all
abbrev pub map_keeps : ℕ → Bool
map_keeps touched = eqb (bit_and touched barred) 0 && (eqb (bit_and touched word) 0 || eqb (bit_and touched word) word)

-- the rules and the map's test have one answer
abbrev alike : ℕ → ℕ → Bool
alike start count = agrees (keeps_rules start count) (map_keeps (span start count))

-- there are fewer data than this from a start on
abbrev past : ℕ → ℕ
past start = register_count + 1 - start

-- so the rules are the map's test
pub by_map : (start count : ℕ) → start + count ≤ register_count → keeps_rules start count ≡ map_keeps (span start count)
unfolding keeps_rules below agrees
by_map start count h =
    let at-start = at-below (past 0) (λ s. below (past s) (alike s)) tt start (omega arith) in
    same_bool (keeps_rules start count) (map_keeps (span start count)) (at-below (past start) (alike start) at-start count (omega arith))
