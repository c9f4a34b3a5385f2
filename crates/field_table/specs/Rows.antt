-- A table of fields that hold one number each: a row a field, and a row for must-be-zero bits. A row is packed in one number of 64 bits, whose hexadecimal
-- digits are its columns: 0x0F_12_20_08_F1F_0E0_03 is field 15, number 18 of the settings, register 20, from bit 0 up 8 bits, settings of -225 to 224, and
-- refusal 3 for a code outside them.
use Rattle.std.specs.Prelude.{cond, ℕ, ◌-◌, ◌/◌, ◌%◌, eqb, ltb, ℤ, pos, negsuc}
use Rattle.field_table.specs.declared.row.Row.{Row}

-- a number of 12 bits, read as two's complement
abbrev pub signed12 : ℕ → ℤ
signed12 n = cond (ltb n 0x800) (pos n) (negsuc (0xFFF - n))

-- the columns of a row: field, index among the settings' numbers, register, lowest bit and width, lowest and highest setting, refusal outside them
abbrev pub row_of : ℕ → Row
row_of p =
    record {
      field = p / 0x100_0000_0000_0000 % 0x100;
      index = p / 0x1_0000_0000_0000 % 0x100;
      register = p / 0x100_0000_0000 % 0x100;
      bit = p / 0x10_0000_0000 % 0x10;
      width = p / 0x1_0000_0000 % 0x10;
      low = signed12 (p / 0x10_0000 % 0x1000);
      high = signed12 (p / 0x100 % 0x1000);
      outside = p % 0x100;
    }

-- the refusal of a code that is no setting's: 3, or 4 where such a code is reserved (document 01's term)
abbrev pub refusal_outside : Row → ℕ
refusal_outside r = cond (eqb r.outside 3) 3 4
