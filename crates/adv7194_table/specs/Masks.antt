-- Document 01, fields table: the bits of each register that belong to a field, and "Must-be-zero bits: bit 7 of 21, bits 7-4 of 22".
use Rattle.std.specs.Prelude.{Bool, not, cond, ◌&&◌, List, [], ◌∷◌, ℕ, zero, suc, ◌+◌, ◌-◌, eqb, leb, ltb}
use Rattle.field_table.specs.declared.row.Row.{Row}
use Rattle.field_table.specs.Masks.{row_bits}
use Rattle.adv7194_bus.specs.Kind.{register_count}
use Rattle.adv7194_table.specs.declared.blocks.Block.{Block}
use Rattle.adv7194_table.specs.Table.{Entry, single, whole, table, field_of, must_be_zero}

-- register r is one of a block's
abbrev pub in_block : Block → ℕ → Bool
in_block b r = leb b.register r && ltb r (b.register + b.registers)

-- the bits of register r that a block has
abbrev pub block_bits : Block → ℕ → ℕ
block_bits b r = cond (in_block b r) 0xFF 0

-- the bits of register r that an entry has
abbrev pub bits_of : Entry → ℕ → ℕ
bits_of (single f) r = row_bits f.row r
bits_of (whole c b) r = block_bits b r

-- the bits of register r that the entries that pass a test have: no two entries have the same bit
unfoldable pub mask_where : (Entry → Bool) → List Entry → ℕ → ℕ
mask_where P [] r = 0
mask_where P (e ∷ es) r = cond (P e) (bits_of e r) 0 + mask_where P es r

-- the bits of register r that belong to a field
unfoldable pub field_mask : ℕ → ℕ
field_mask r = mask_where (λ e. not (must_be_zero e)) table r

-- the must-be-zero bits of register r
unfoldable pub zero_mask : ℕ → ℕ
zero_mask r = mask_where must_be_zero table r

-- the bits of register r that count to field n, must-be-zero bits too
unfoldable pub own_mask : ℕ → ℕ → ℕ
own_mask n r = mask_where (λ e. eqb (field_of e) n) table r

-- those of them that rows have, and that blocks have
unfoldable pub rows_mask : ℕ → ℕ → List Row → ℕ
rows_mask n r [] = 0
rows_mask n r (row ∷ rows) = cond (eqb row.field n) (row_bits row r) 0 + rows_mask n r rows

unfoldable pub blocks_mask : ℕ → ℕ → List Block → ℕ
blocks_mask n r [] = 0
blocks_mask n r (b ∷ bs) = cond (eqb b.field n) (block_bits b r) 0 + blocks_mask n r bs

-- the bits of register r that belong to field n, must-be-zero bits apart
unfoldable pub setting_mask : ℕ → ℕ → ℕ
setting_mask n r = mask_where (λ e. eqb (field_of e) n && not (must_be_zero e)) table r

-- the bits of register r outside all fields
unfoldable pub outside_mask : ℕ → ℕ
outside_mask r = 0xFF - (field_mask r + zero_mask r)

-- what a definition gives for each of n numbers from k on
abbrev pub each : (ℕ → ℕ) → ℕ → ℕ → List ℕ
each f k zero = []
each f k (suc n) = f k ∷ each f (suc k) n

-- the bits of every register that belong to a field
unfoldable pub field_masks : List ℕ
field_masks = each field_mask 0 register_count

-- the must-be-zero bits of every register
unfoldable pub zero_masks : List ℕ
zero_masks = each zero_mask 0 register_count
