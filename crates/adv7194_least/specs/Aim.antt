-- What planning aims at. Document 01: a register is needed where the starting image and the wanted image differ. Document 02, P5: where it is not known, it is
-- needed if the settings and must-be-zero bits fix all its bits; no list may touch an unknown register that isn't needed. P6: there is a limit on the data of
-- a transaction.
use Rattle.std.specs.Prelude.{Bool, cond, ◌||◌, List, ℕ, ℤ}
use Rattle.bus.specs.Registers.{differs}
use Rattle.adv7194_bus.specs.declared.board.Board.{Board}
use Rattle.adv7194_bus.specs.Board.{knows}
use Rattle.adv7194_settings.specs.Wanted.{wanted_by}
use Rattle.adv7194_settings.specs.Known.{fixes_all}

-- the board that is found, the wanted image, the registers of which settings and must-be-zero bits fix every bit, and the limit
pub record Aim : Type 0 where
  pub board : Board
  pub wanted : List ℕ
  pub fixes : ℕ → Bool
  pub limit : ℕ

-- register r is needed
abbrev pub must : Aim → ℕ → Bool
must a r = cond (knows a.board r) (differs a.board.registers a.wanted r) (a.fixes r)

-- register r is known or needed: a list may touch it, and it is compared
abbrev pub compared : Aim → ℕ → Bool
compared a r = knows a.board r || a.fixes r

-- what settings aim at over a board, with a limit
abbrev pub aim_of : Board → List ℤ → ℕ → Aim
aim_of b zs limit = record { board = b; wanted = wanted_by b.registers zs; fixes = fixes_all zs; limit = limit }
