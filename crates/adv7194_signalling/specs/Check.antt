-- Document 01, "CGMS": the six check bits. Start from six ones; for each payload bit from C0, top bit xor payload bit is the feedback;
-- shift left within six bits; if the feedback is 1, xor with 000011.
use Rattle.std.specs.Prelude.{Bool, cond, ℕ, ◌*◌, ◌%◌}
use Rattle.std.specs.Bool.{xor}
use mathlib.Core.List.{foldl}
use Rattle.std.specs.Int.Bits.{bit_xor}
use Rattle.bits.specs.Maps.{has}
use Rattle.bits.specs.Strings.{lsb_first, msb_first, lsb_value}

-- the register after one payload bit: shifted left within six bits, and xored with 000011 where top bit xor payload bit is 1
unfoldable pub after_bit : ℕ → Bool → ℕ
after_bit register b = bit_xor (register * 2 % 64) (cond (xor (has register 5) b) 0b000011 0)

-- the check register of a payload: six ones, after C0 to C13
unfoldable pub check_of : ℕ → ℕ
check_of payload = foldl after_bit 0b111111 (lsb_first 14 payload)

-- a register with its bits reversed, its top bit lowest: C14 is the register's top bit, C19 its last
abbrev pub reversed : ℕ → ℕ
reversed register = lsb_value (msb_first 6 register)
