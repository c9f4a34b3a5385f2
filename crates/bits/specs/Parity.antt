-- Odd parity: strings of bits with an odd number of ones, and the bit more that makes a number's ones odd in number (EIA-608).
use Rattle.std.specs.Prelude.{Bool, false, cond, List, [], ◌∷◌, ℕ, ◌+◌, ◌^◌}
use Rattle.std.specs.Bool.{xor}
use Rattle.bits.specs.Strings.{lsb_first}

-- whether an odd number of the bits are ones
unfoldable pub odd_ones : List Bool → Bool
odd_ones [] = false
odd_ones (b ∷ bs) = xor b (odd_ones bs)

-- whether an odd number of the w lowest bits of a number are ones
abbrev pub odd_in : ℕ → ℕ → Bool
odd_in w v = odd_ones (lsb_first w v)

-- a number of w bits with bit w making its ones odd in number
unfoldable pub with_parity : ℕ → ℕ → ℕ
with_parity w v = cond (odd_in w v) v (v + 2 ^ w)
