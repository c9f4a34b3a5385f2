-- Document 01, "Codings", subcarrier word: the whole number nearest to 2^32 times cycles per line over clocks per line.
use Rattle.std.specs.Prelude.{Bool, cond, List, [], ◌∷◌, ℕ, ◌*◌, ◌/◌, ◌%◌, ◌^◌, ℤ}
use Rattle.field_table.specs.Blocks.{is}
use Rattle.rounding.specs.Nearest.{nearest}

-- cycles per line are 455/2 (NTSC) and 709379/2500 (PAL): the numerator
abbrev pub cycles_of : Bool → ℕ
cycles_of pal = cond pal 709379 455

-- and the divisor
abbrev pub divisor_of : Bool → ℕ
divisor_of pal = cond pal 2500 2

-- clocks per line, with square pixels or not
abbrev pub clocks_of : Bool → Bool → ℕ
clocks_of pal square = cond pal (cond square 1888 1728) (cond square 1560 1716)

-- the subcarrier word
unfoldable pub word_of : Bool → Bool → ℕ
word_of pal square = nearest (2 ^ 32 * cycles_of pal) (divisor_of pal * clocks_of pal square)

-- the word's bytes, lowest first
abbrev pub word_bytes : ℕ → List ℕ
word_bytes w = w % 256 ∷ w / 256 % 256 ∷ w / 65536 % 256 ∷ w / 16777216 ∷ []

-- the word's bytes by the settings of the standard, of which 1 is PAL, and of square pixel
unfoldable pub word_codes : ℤ → ℤ → List ℕ
word_codes standard square = word_bytes (word_of (is 1 standard) (is 1 square))
