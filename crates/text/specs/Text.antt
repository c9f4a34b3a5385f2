-- Document 01, "Cases on each side": counts are decimal numbers, bytes two-digit capital hexadecimal, one space between, each line on its own.
-- Text is a list of ASCII codes.
use Rattle.std.specs.Prelude.{cond, ℕ, zero, suc, ◌+◌, ◌/◌, ◌%◌, eqb, ltb, ℤ, pos, negsuc}
use mathlib.Core.List.{List, [], ◌∷◌, ◌++◌, flat_map}

-- one space
abbrev pub space : List ℕ
space = 0x20 ∷ []

-- the end of a line
abbrev pub line_end : List ℕ
line_end = 0x0a ∷ []

-- the ASCII code of a decimal digit
abbrev pub digit : ℕ → ℕ
digit d = 0x30 + d

-- the decimal digits of n, none for 0; `steps` bounds the divisions by ten, and n of them are enough
unfoldable pub leading : ℕ → ℕ → List ℕ
leading zero n = []
leading (suc steps) n = cond (eqb n 0) [] (leading steps (n / 10) ++ (digit (n % 10) ∷ []))

-- n in decimal: its last digit, and before it those of the tens, with no leading zero
unfoldable pub decimal : ℕ → List ℕ
decimal n = leading n (n / 10) ++ (digit (n % 10) ∷ [])

-- a signed number in decimal: a minus sign where it is negative, and the magnitude
unfoldable pub signed : ℤ → List ℕ
signed (pos n) = decimal n
signed (negsuc n) = 0x2d ∷ decimal (suc n)

-- the ASCII code of a hexadecimal digit, in capitals
abbrev pub hex_digit : ℕ → ℕ
hex_digit d = cond (ltb d 10) (0x30 + d) (0x37 + d)

-- a byte in two hexadecimal digits
unfoldable pub hex_byte : ℕ → List ℕ
hex_byte b = hex_digit (b / 16) ∷ hex_digit (b % 16) ∷ []

-- bytes, each after a space
unfoldable pub hex_text : List ℕ → List ℕ
hex_text bs = flat_map (λ b. space ++ hex_byte b) bs
