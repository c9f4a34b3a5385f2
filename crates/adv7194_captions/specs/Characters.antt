-- Document 02, P4: each seven-bit character leaves with bit 7 making its ones odd in number (EIA-608); one above 127 is refused.
use Rattle.std.specs.Prelude.{Bool, ◌&&◌, ℕ, ◌%◌, ◌^◌, ℤ, pos, nat_abs}
use Rattle.std.specs.Int.Signed.{le_z}
use Rattle.bits.specs.Parity.{odd_in, with_parity}

-- a number is a character: 0 to 127
abbrev pub is_character : ℤ → Bool
is_character z = le_z (pos 0) z && le_z z (pos 127)

-- the byte that a character leaves as: its seven bits, and bit 7
abbrev pub caption_byte : ℤ → ℕ
caption_byte z = with_parity 7 (nat_abs z)

-- an odd number of a byte's bits are ones
abbrev pub is_odd : ℕ → Bool
is_odd b = odd_in 8 b

-- the character that a byte leaves: its seven lowest bits
abbrev pub character_in : ℕ → ℕ
character_in b = b % 2 ^ 7
