-- Document 001, Figure 14, and document 02, P13: the ADV7195 in progressive-scan mode has the registers 00 to 27. A byte for 0A to 0F, which 001 doesn't
-- name, is acknowledged and dropped.
use Rattle.std.specs.Prelude.{Bool, not, ℕ}
use Rattle.bus.specs.Registers.{among}
use Rattle.bus.specs.Chip.{Kind}

-- how many registers the chip has: 00 to 27
abbrev pub register_count : ℕ
register_count = 0x28

-- register r is one that 001 doesn't name
abbrev pub unnamed : ℕ → Bool
unnamed r = among 0x0a 0x0f r

-- the ADV7195 at a bus address of its own: every register that 001 names keeps a byte
abbrev pub adv7195 : ℕ → Kind
adv7195 own = record { count = register_count; keeps = λ r. not (unnamed r); address = own }
