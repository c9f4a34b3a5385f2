-- Document 01, "Fields" and "The bus and its three rules": an image is 54 bytes, one a register; a byte for 34 is acknowledged and dropped.
use Rattle.std.specs.Prelude.{not, ℕ, eqb}
use Rattle.bus.specs.Chip.{Kind}

-- how many registers the chip has: 00 to 35
abbrev pub register_count : ℕ
register_count = 0x36

-- the register that is only read
abbrev pub read_only : ℕ
read_only = 0x34

-- the ADV7194 at a bus address of its own: every register but the read-only one keeps a byte
abbrev pub adv7194 : ℕ → Kind
adv7194 own = record { count = register_count; keeps = λ r. not (eqb r read_only); address = own }

-- the bus address of the chip on the boards
abbrev pub board_address : ℕ
board_address = 0x54
