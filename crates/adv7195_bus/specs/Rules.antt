-- Document 02, P13: of the bus rules the chip has the first, with no data to registers that 001 doesn't name.
use Rattle.std.specs.Prelude.{◌≡◌, Bool, true, false, not, ◌&&◌, ◌||◌, List, [], ◌∷◌, ℕ, ◌+◌, ◌<◌, leb, ltb, eqb}
use Rattle.bus.specs.Registers.{apart}
use Rattle.bus.specs.Transactions.{Transaction, size, Touches}
use Rattle.adv7195_bus.specs.Kind.{register_count, unnamed}

-- rule 1: no data outside 00-27, and none to 0A-0F
pub record Rules (t : Transaction) : Type 0 where
  pub inside : (r : ℕ) → Touches t r → (r < register_count) × (unnamed r ≡ false)

-- a byte may be written to register r: the chip has it, and 001 names it
abbrev pub writable : ℕ → Bool
writable r = ltb r register_count && not (unnamed r)

-- the rule as a test on subaddress and data count: with no data none is touched. It holds exactly where the rule does (theorem `agree` of
-- proofs/RuleLaws.antt)
unfoldable pub keeps_rules : ℕ → ℕ → Bool
keeps_rules subaddress count =
    eqb count 0
    || (leb (subaddress + count) register_count && apart subaddress (subaddress + count) 0x0a 0x0f)

-- every transaction of a list keeps the rule
unfoldable pub all_keep_rules : List Transaction → Bool
all_keep_rules [] = true
all_keep_rules (t ∷ ts) = keeps_rules t.subaddress (size t) && all_keep_rules ts
