-- The bits of a register that rows of a table have.
use Rattle.std.specs.Prelude.{Bool, cond, List, [], ◌∷◌, ℕ, ◌+◌, ◌-◌, ◌*◌, ◌^◌, eqb}
use Rattle.field_table.specs.declared.row.Row.{Row}
use Rattle.field_table.specs.Coding.{Field}

-- the bits of register r that a row has
abbrev pub row_bits : Row → ℕ → ℕ
row_bits row r = cond (eqb row.register r) ((2 ^ row.width - 1) * 2 ^ row.bit) 0

-- the bits of register r that the rows have that pass a test: no two rows have the same bit
unfoldable pub mask_where : (Row → Bool) → List Field → ℕ → ℕ
mask_where P [] r = 0
mask_where P (x ∷ xs) r = cond (P x.row) (row_bits x.row r) 0 + mask_where P xs r
