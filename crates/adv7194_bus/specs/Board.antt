-- Document 02, P5: the image goes with 54 known-or-not flags, in one record.
use Rattle.std.specs.Prelude.{Bool, List, ℕ, ◌-◌, ◌^◌}
use Rattle.bits.specs.Maps.{has}
use Rattle.adv7194_bus.specs.Kind.{register_count}
use Rattle.adv7194_bus.specs.declared.board.Board.{Board}

-- the record of an image and a map of its known registers
abbrev pub board_of : List ℕ → ℕ → Board
board_of image map = record { registers = image; known = map }

-- register r is known
abbrev pub knows : Board → ℕ → Bool
knows b r = has b.known r

-- the map of all registers
abbrev pub all_known : ℕ
all_known = 2 ^ register_count - 1
