-- How a number that stands for a byte is written, for every number that can stand there: one that is no byte is written in signed decimal.
use Rattle.std.specs.Prelude.{cond, List, ℕ, ltb, ℤ, pos, negsuc}
use Rattle.text.specs.Text.{signed, hex_byte}

-- a byte: two hexadecimal digits
unfoldable pub code : ℤ → List ℕ
code (pos n) = cond (ltb n 256) (hex_byte n) (signed (pos n))
code (negsuc n) = signed (negsuc n)
