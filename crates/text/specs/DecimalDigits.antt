-- The decimal digits of a number in a fixed number of bytes.
use Rattle.std.specs.Prelude.{◌++◌, ℕ, ◌-◌, length}
use Rattle.text.specs.Line.{zeros}
use Rattle.text.specs.Text.{decimal}
use Rattle.text.specs.declared.number.Digits.{Digits}

-- the bytes that hold any 64-bit number and a sign
abbrev pub width : ℕ
width = 21

-- where the digits of n begin
abbrev pub first_digit : ℕ → ℕ
first_digit n = width - length (decimal n)

-- zeros, then n in decimal; and where its first digit stands
unfoldable pub decimal_digits : ℕ → Digits
decimal_digits n = record { bytes = zeros (first_digit n) ++ decimal n; first = first_digit n }
