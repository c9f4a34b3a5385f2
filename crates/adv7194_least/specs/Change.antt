-- Document 01, "The bus and its three rules": the wanted image has each field as its coding makes it, must-be-zero bits zero, and every
-- other bit from the starting image. So the two differ only in registers that have such bits. Document 02, P5: where settings and must-be-zero bits fix only
-- some bits of an unknown register, planning refuses. P6: the limit is a right one.
use Rattle.std.specs.Prelude.{◌≡◌, Bool, true, false, not, ◌||◌, List, ℕ, ◌+◌, ◌^◌, ◌<◌, eqb, length, get_or}
use Rattle.adv7194_bus.specs.Kind.{register_count}
use Rattle.adv7194_bus.specs.Limit.{limit_right}
use Rattle.adv7194_table.specs.Masks.{field_mask, zero_mask}
use Rattle.adv7194_least.specs.Aim.{Aim, must, compared}
use Rattle.bus.specs.Registers.{among}
use Rattle.adv7194_least.specs.Plan.{in_word}

-- register r has a bit that belongs to a field or must be zero
unfoldable pub settable : ℕ → Bool
settable r = not (eqb (field_mask r + zero_mask r) 0)

-- the registers without such a bit that a plan can touch, on its way between others: 03, 04 and 1C (theorem `plan_bridges` of
-- proofs/Bridges.antt)
abbrev pub bridge : ℕ → Bool
bridge r = eqb r 0x03 || (eqb r 0x04 || eqb r 0x1c)

-- a list is an image: one byte a register
pub record Image (image : List ℕ) : Type 0 where
  pub size : length image ≡ register_count
  pub bytes : (r : ℕ) → get_or image r 0 < 2 ^ 8

-- from a board to a wanted image: they agree on every register that has no such bit; a register that is fixed has one, and those of the subcarrier word are
-- fixed; the limit is right
pub record Change (a : Aim) : Type 0 where
  pub found : Image a.board.registers
  pub wants : Image a.wanted
  pub kept : (r : ℕ) → r < register_count → settable r ≡ false → get_or a.wanted r 0 ≡ get_or a.board.registers r 0
  pub fixed : (r : ℕ) → a.fixes r ≡ true → (r < register_count) × (settable r ≡ true)
  pub word : (r : ℕ) → in_word r ≡ true → a.fixes r ≡ true
  pub limited : limit_right a.limit ≡ true

-- where planning doesn't refuse, a register with such a bit is known or fixed, but for 1A and 1B where field 11 is off: then neither is needed
abbrev pub Told : Aim → Type 0
Told a =
    (r : ℕ) → r < register_count → settable r ≡ true → compared a r ≡ false
    → (among 0x1a 0x1b r ≡ true) × ((must a 0x1a ≡ false) × (must a 0x1b ≡ false))
