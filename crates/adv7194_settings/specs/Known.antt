-- Document 02, P5: after a power dip we may know only some registers. A register not known counts as needed where the settings and must-be-zero bits fix all
-- its bits; where they fix only some, planning refuses by 11 and the lowest such field. Reading gives 11 at the first field with an unknown register.
use Rattle.std.specs.Prelude.{Bool, not, ◌&&◌, ℕ, List, [], eqb, ℤ}
use Rattle.adv7194_bus.specs.declared.board.Board.{Board}
use Rattle.adv7194_bus.specs.Board.{knows}
use Rattle.adv7194_table.specs.Blocks.{signalling}
use Rattle.adv7194_table.specs.Table.{signals}
use Rattle.adv7194_table.specs.Registers.{field_among}
use Rattle.adv7194_settings.specs.Codes.{block_codes}
use Rattle.adv7194_settings.specs.Demand.{fixed_mask}
use Rattle.refusals.specs.Refusal.{value_or}

-- the bits of register r that settings and must-be-zero bits fix
abbrev pub fixed_bits : List ℤ → ℕ → ℕ
fixed_bits zs r = fixed_mask (value_or [] (block_codes zs signals signalling)) r

-- they are all of its bits
abbrev pub fixes_all : List ℤ → ℕ → Bool
fixes_all zs r = eqb (fixed_bits zs r) 0xFF

-- they are only some
abbrev pub fixes_some : List ℤ → ℕ → Bool
fixes_some zs r = not (eqb (fixed_bits zs r) 0) && not (fixes_all zs r)

-- row 11 of planning at field f: it has a bit in a register that is not known and that is fixed only in part
abbrev pub partly_fixed : Board → List ℤ → ℕ → Bool
partly_fixed b zs f = field_among (λ r. not (knows b r) && fixes_some zs r) f

-- row 11 of reading at field f: it has a register that is not known
abbrev pub not_known : Board → ℕ → Bool
not_known b f = field_among (λ r. not (knows b r)) f
