-- Document 01, demand 2's image, bit by bit: each field as its coding makes it, must-be-zero bits zero, every other bit from the starting
-- image.
use Rattle.std.specs.Prelude.{◌≡◌, cond, List, [], ◌∷◌, ℕ, ◌+◌, ◌<◌, eqb, ℤ, length, get_or}
use Rattle.bits.specs.Fields.{bit}
use Rattle.field_table.specs.Writes.{bit_after, AllHeld}
use Rattle.adv7194_bus.specs.Kind.{register_count}
use Rattle.adv7194_table.specs.Blocks.{signalling}
use Rattle.adv7194_table.specs.Table.{signals, table}
use Rattle.adv7194_table.specs.Masks.{in_block, field_mask, zero_mask}
use Rattle.adv7194_settings.specs.Codes.{block_codes}
use Rattle.adv7194_settings.specs.Wanted.{writes_of}
use Rattle.refusals.specs.Refusal.{value_or}

-- the bits of register r that are not as found, field 11's being these codes: field bits and must-be-zero bits. Under off field 11 has bits 7-4 of 19 only
unfoldable pub fixed_mask : List ℕ → ℕ → ℕ
fixed_mask [] r = cond (in_block signalling r) (cond (eqb r signalling.register) 0xF0 0) (field_mask r + zero_mask r)
fixed_mask (c ∷ cs) r = field_mask r + zero_mask r

-- an image that is as demand 2 wants it
pub record Demanded (image : List ℕ) (zs : List ℤ) (out : List ℕ) : Type 0 where
  pub size : length out ≡ length image
  -- a bit that a code sets is the code's, any other is as found
  pub bits : (r i : ℕ) → i < 8 → bit i (get_or out r 0) ≡ bit_after (bit i (get_or image r 0)) (writes_of zs table) r i
  -- each field is as its coding makes it
  pub fields : AllHeld out (writes_of zs table)
  -- must-be-zero bits are zero
  pub zero : (r i : ℕ) → r < register_count → i < 8 → bit i (zero_mask r) ≡ 1 → bit i (get_or out r 0) ≡ 0
  -- every other bit is as found
  pub kept : (r i : ℕ) → r < register_count → i < 8 → bit i (fixed_mask (value_or [] (block_codes zs signals signalling)) r) ≡ 0
      → bit i (get_or out r 0) ≡ bit i (get_or image r 0)
