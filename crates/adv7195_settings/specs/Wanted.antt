-- Document 01, demand 2's image, and document 02, P13: each field as its coding makes it from the settings, must-be-zero bits zero, every other bit from the
-- starting image; bit by bit.
use Rattle.std.specs.Prelude.{◌≡◌, Bool, not, List, ℕ, ◌+◌, ◌<◌, eqb, ℤ, length, get_or}
use Rattle.bits.specs.Fields.{bit}
use Rattle.field_table.specs.declared.row.Row.{Row}
use Rattle.field_table.specs.Writes.{Write, puts, bit_after, AllHeld}
use Rattle.field_table.specs.Walk.{writes_of}
use Rattle.field_table.specs.Masks.{mask_where}
use Rattle.adv7195_bus.specs.Kind.{register_count}
use Rattle.adv7195_settings.specs.Fields.{no_number, fields}
use Rattle.adv7195_settings.specs.Numbers.{parts_of}

-- what the settings set
abbrev pub setting_writes : List ℤ → List Write
setting_writes zs = writes_of (parts_of zs) fields

-- the image that the settings mean over a starting image
unfoldable pub wanted_by : List ℕ → List ℤ → List ℕ
wanted_by image zs = puts image (setting_writes zs)

-- a row is a must-be-zero bit
abbrev pub must_be_zero : Row → Bool
must_be_zero row = eqb row.index no_number

-- the bits of register r that belong to a field, and the must-be-zero bits
unfoldable pub field_mask : ℕ → ℕ
field_mask r = mask_where (λ row. not (must_be_zero row)) fields r

unfoldable pub zero_mask : ℕ → ℕ
zero_mask r = mask_where must_be_zero fields r

-- an image that is as demand 2 wants it
pub record Demanded (image : List ℕ) (zs : List ℤ) (out : List ℕ) : Type 0 where
  pub size : length out ≡ length image
  -- a bit that a code sets is the code's, any other is as found
  pub bits : (r i : ℕ) → i < 8 → bit i (get_or out r 0) ≡ bit_after (bit i (get_or image r 0)) (setting_writes zs) r i
  -- each field is as its coding makes it
  pub fields : AllHeld out (setting_writes zs)
  -- must-be-zero bits are zero
  pub zero : (r i : ℕ) → r < register_count → i < 8 → bit i (zero_mask r) ≡ 1 → bit i (get_or out r 0) ≡ 0
  -- every other bit is as found
  pub kept : (r i : ℕ) → r < register_count → i < 8 → bit i (field_mask r + zero_mask r) ≡ 0 → bit i (get_or out r 0) ≡ bit i (get_or image r 0)
