-- Document 001, the controls of progressive-scan mode, and document 02, P13: "they and the must-be-zero bits are numbered together, by lowest register, then
-- lowest bit"; "delays run 0 to 4, else 3"; thresholds take any byte. Each setting is its plain code.
use Rattle.std.specs.Prelude.{List, [], ◌∷◌, ◌++◌, ℕ, pos}
use Rattle.field_table.specs.Coding.{Field, plain_of}

-- a row whose settings are 0 to the highest: field n, number k of the table's, w bits of register r from bit p up, and the refusal of another code
abbrev pub up_to : ℕ → ℕ → ℕ → ℕ → ℕ → ℕ → ℕ → Field
up_to n k r p w highest outside =
    plain_of (record { field = n; index = k; register = r; bit = p; width = w; low = pos 0; high = pos highest; outside = outside })

-- a bit, two bits, four bits and a byte of which every code is a setting
abbrev pub flag : ℕ → ℕ → ℕ → ℕ → Field
flag n k r p = up_to n k r p 1 1 3

abbrev pub pair : ℕ → ℕ → ℕ → ℕ → Field
pair n k r p = up_to n k r p 2 3 3

abbrev pub nibble : ℕ → ℕ → ℕ → ℕ → Field
nibble n k r p = up_to n k r p 4 15 3

abbrev pub byte : ℕ → ℕ → ℕ → Field
byte n k r = up_to n k r 0 8 255 3

-- two bits whose code 3 is reserved
abbrev pub choice : ℕ → ℕ → ℕ → ℕ → Field
choice n k r p = up_to n k r p 2 2 4

-- a delay of three bits, 0 to 4: other codes are outside the range
abbrev pub delay : ℕ → ℕ → ℕ → ℕ → Field
delay n k r p = up_to n k r p 3 4 3

-- past the table's numbers: must-be-zero bits have none
abbrev pub no_number : ℕ
no_number = 0xFF

-- a must-be-zero bit
abbrev pub zero_bit : ℕ → ℕ → ℕ → Field
zero_bit n r p = up_to n no_number r p 1 0 4

-- the table, in the checking order: Mode Registers 0 to 3
unfoldable pub modes : List Field
modes =
    choice 1 0 0x00 0 ∷ choice 2 1 0x00 2 ∷ flag 3 2 0x00 4 ∷ zero_bit 4 0x00 5 ∷ flag 5 3 0x00 6 ∷ zero_bit 6 0x00 7
    ∷ flag 7 4 0x01 0 ∷ flag 8 5 0x01 1 ∷ flag 9 6 0x01 2 ∷ flag 10 7 0x01 3 ∷ flag 11 8 0x01 4 ∷ pair 12 9 0x01 5 ∷ flag 13 10 0x01 7
    ∷ delay 14 11 0x02 0 ∷ delay 15 12 0x02 3 ∷ flag 16 13 0x02 6 ∷ flag 17 14 0x02 7
    ∷ flag 18 15 0x03 0 ∷ zero_bit 19 0x03 1 ∷ zero_bit 20 0x03 2 ∷ flag 21 16 0x03 3 ∷ flag 22 17 0x03 4 ∷ flag 23 18 0x03 5 ∷ flag 24 19 0x03 6
    ∷ zero_bit 25 0x03 7 ∷ []

-- Mode Registers 4 and 5, the colours, Mode Register 6 and the filter gain
unfoldable pub outputs : List Field
outputs =
    flag 26 20 0x04 0
    ∷ zero_bit 27 0x05 0 ∷ flag 28 21 0x05 1 ∷ flag 29 22 0x05 2 ∷ flag 30 23 0x05 3 ∷ flag 31 24 0x05 4 ∷ flag 32 25 0x05 5 ∷ flag 33 26 0x05 6
    ∷ flag 34 27 0x05 7
    ∷ byte 35 28 0x06 ∷ byte 36 29 0x07 ∷ byte 37 30 0x08 ∷ byte 38 31 0x09
    ∷ nibble 39 32 0x10 0 ∷ nibble 40 33 0x10 4 ∷ []

-- the CGMS data over three registers, and the gamma curves over seven each
unfoldable pub blocks : List Field
blocks =
    byte 41 34 0x11 ∷ byte 41 35 0x12 ∷ nibble 41 36 0x13 0
    ∷ byte 42 37 0x14 ∷ byte 42 38 0x15 ∷ byte 42 39 0x16 ∷ byte 42 40 0x17 ∷ byte 42 41 0x18 ∷ byte 42 42 0x19 ∷ byte 42 43 0x1A
    ∷ byte 43 44 0x1B ∷ byte 43 45 0x1C ∷ byte 43 46 0x1D ∷ byte 43 47 0x1E ∷ byte 43 48 0x1F ∷ byte 43 49 0x20 ∷ byte 43 50 0x21 ∷ []

-- the adaptive filter's gains and thresholds
unfoldable pub filters : List Field
filters =
    nibble 44 51 0x22 0 ∷ nibble 45 52 0x22 4 ∷ nibble 46 53 0x23 0 ∷ nibble 47 54 0x23 4 ∷ nibble 48 55 0x24 0 ∷ nibble 49 56 0x24 4
    ∷ byte 50 57 0x25 ∷ byte 51 58 0x26 ∷ byte 52 59 0x27 ∷ []

-- the whole of it
unfoldable pub fields : List Field
fields = modes ++ (outputs ++ (blocks ++ filters))
