-- Document 01, "Fields, in their fixed order": the fields that fill whole registers, packed as rows are: 0x0B_0A_05_19_03 is field 11, five numbers of the
-- settings from number 10 on, three registers from 19 on.
use Rattle.std.specs.Prelude.{List, [], ◌∷◌, ℕ, ◌/◌, ◌%◌}
use Rattle.adv7194_table.specs.declared.blocks.Block.{Block}

-- the columns of a block: field, first number and how many, first register and how many
abbrev pub block : ℕ → ℕ → ℕ → ℕ → ℕ → Block
block n k count r size = record { field = n; index = k; numbers = count; register = r; registers = size }

-- a block from the number that it is packed in
abbrev pub block_of : ℕ → Block
block_of p = block (p / 0x1_0000_0000 % 0x100) (p / 0x100_0000 % 0x100) (p / 0x1_0000 % 0x100) (p / 0x100 % 0x100) (p % 0x100)

-- blocks from the numbers that they are packed in
unfoldable pub blocks_of : List ℕ → List Block
blocks_of [] = []
blocks_of (p ∷ ps) = block_of p ∷ blocks_of ps

-- 11, signalling: kind, payload or WSS number, odd field, even field, chip check
abbrev pub signalling : Block
signalling = block 11 10 5 0x19 3

-- 26 and 27, the gamma curves: kind, the ratio's two numbers, seven bytes
abbrev pub curve_a : Block
curve_a = block 26 29 10 0x26 7

abbrev pub curve_b : Block
curve_b = block 27 39 10 0x2D 7

-- 28, the subcarrier word, lowest byte first: worked out, not set
abbrev pub word : Block
word = block 28 49 0 0x0C 4
