-- Document 01, "Fields, in their fixed order": the whole table, in the checking order, the fields that fill whole registers among it.
use Rattle.std.specs.Prelude.{Bool, false, cond, ◌&&◌, List, [], ◌∷◌, ◌++◌, map, ℕ, ◌+◌, eqb, leb, ltb}
use Rattle.field_table.specs.declared.row.Row.{Row}
use Rattle.field_table.specs.Rows.{row_of}
use Rattle.field_table.specs.Coding.{Field}
use Rattle.adv7194_table.specs.declared.blocks.Block.{Block}
use Rattle.adv7194_table.specs.Blocks.{signalling, curve_a, curve_b, word}
use Rattle.adv7194_table.specs.Fields.{number_count, timing, pedestal, output, picture, dnr}

-- what a block holds: signalling, a gamma curve or the subcarrier word
pub data Content : Type 0 where
  signals : Content
  curve : Content
  subcarrier : Content

-- a row of the table: a field of one number or must-be-zero bits, or a block
pub data Entry : Type 0 where
  single : Field → Entry
  whole : Content → Block → Entry

-- the table
unfoldable pub table : List Entry
table =
    map single timing ++ (single pedestal ∷ (map single output ++ (whole signals signalling
    ∷ (map single picture ++ (map single dnr ++ (whole curve curve_a ∷ whole curve curve_b ∷ whole subcarrier word ∷ []))))))

-- the number of an entry's field
abbrev pub field_of : Entry → ℕ
field_of (single f) = f.row.field
field_of (whole c b) = b.field

-- an entry is must-be-zero bits: its number isn't one of the settings'
abbrev pub must_be_zero : Entry → Bool
must_be_zero (single f) = leb number_count f.row.index
must_be_zero (whole c b) = false

-- the checking order: each field once, with its must-be-zero bits
unfoldable pub order_of : List Entry → List ℕ
order_of [] = []
order_of (e ∷ es) = cond (must_be_zero e) (order_of es) (field_of e ∷ order_of es)

-- number k of the settings is an entry's
abbrev pub has_number : ℕ → Entry → Bool
has_number k (single f) = eqb f.row.index k
has_number k (whole c b) = leb b.index k && ltb k (b.index + b.numbers)

-- the field of number k, 0 where it has none
unfoldable pub number_field : ℕ → List Entry → ℕ
number_field k [] = 0
number_field k (e ∷ es) = cond (has_number k e) (field_of e) (number_field k es)

-- the fields of one number, and must-be-zero bits
unfoldable pub single_fields : List Entry → List Field
single_fields [] = []
single_fields (single f ∷ es) = f ∷ single_fields es
single_fields (whole c b ∷ es) = single_fields es

-- the blocks
unfoldable pub blocks_in : List Entry → List Block
blocks_in [] = []
blocks_in (single f ∷ es) = blocks_in es
blocks_in (whole c b ∷ es) = b ∷ blocks_in es

-- the rows of the fields of one number
unfoldable pub rows_in : List Field → List Row
rows_in [] = []
rows_in (f ∷ fs) = f.row ∷ rows_in fs

-- rows from the numbers that they are packed in
unfoldable pub rows_of : List ℕ → List Row
rows_of [] = []
rows_of (p ∷ ps) = row_of p ∷ rows_of ps
