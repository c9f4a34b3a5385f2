-- Document 01, "The bus and its three rules": the rules for a write transaction, on the registers that it touches.
use Rattle.std.specs.Prelude.{◌≢◌, Bool, true, ◌&&◌, ◌||◌, List, [], ◌∷◌, ℕ, ◌+◌, ◌≤◌, ◌<◌, leb, ltb, eqb}
use Rattle.bus.specs.Registers.{apart}
use Rattle.bus.specs.Transactions.{Transaction, size, Touches}
use Rattle.adv7194_bus.specs.Kind.{register_count, read_only}

-- the subcarrier word's registers, 0C-0F
abbrev pub Word : ℕ → Type 0
Word r = (0x0c ≤ r) × (r ≤ 0x0f)

-- the caption registers, 11-14
abbrev pub Caption : ℕ → Type 0
Caption r = (0x11 ≤ r) × (r ≤ 0x14)

-- the three rules: 1 no data outside 00-35, and none to 34; 2 a transaction that touches one of 0C-0F holds all four; 3 none touches 11-14
pub record Rules (t : Transaction) : Type 0 where
  pub inside : (r : ℕ) → Touches t r → (r < register_count) × (r ≢ read_only)
  pub whole : (r : ℕ) → Touches t r → Word r → (q : ℕ) → Word q → Touches t q
  pub captions : (r : ℕ) → Touches t r → Caption r → ⊥

-- the rules for data for the registers from start on, before the register end
abbrev pub ruled : ℕ → ℕ → Bool
ruled start end =
    leb end register_count
    && (apart start end read_only read_only
    && (apart start end 0x11 0x14 && (apart start end 0x0c 0x0f || (leb start 0x0c && ltb 0x0f end))))

-- the rules as a test on subaddress and data count: with no data none is touched. It holds exactly where the rules do (theorem `agree` of
-- proofs/RuleLaws.antt)
unfoldable pub keeps_rules : ℕ → ℕ → Bool
keeps_rules subaddress count = eqb count 0 || ruled subaddress (subaddress + count)

-- every transaction of a list keeps the rules
unfoldable pub all_keep_rules : List Transaction → Bool
all_keep_rules [] = true
all_keep_rules (t ∷ ts) = keeps_rules t.subaddress (size t) && all_keep_rules ts
