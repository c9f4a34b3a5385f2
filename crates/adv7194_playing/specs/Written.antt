-- Document 01, "The bus and its three rules": data are stored, and the pointer rises by one. Document 02, P5: a stored byte makes its register known. What
-- a list of transactions that a play call takes leaves of a board.
use Rattle.std.specs.Prelude.{◌≡◌, List, ℕ, Result, Ok, Err, length}
use Rattle.refusals.specs.Refusal.{Judged, accepted, refused, number_of}
use Rattle.refusals.specs.declared.Refusal.{Refusal}
use Rattle.bus.specs.Transactions.{Transaction}
use Rattle.bus.specs.Written.{all_written}
use Rattle.bus.specs.Known.{marks_of}
use Rattle.adv7194_bus.specs.declared.board.Board.{Board}
use Rattle.adv7194_bus.specs.Board.{board_of}
use Rattle.adv7194_playing.specs.declared.Walk.{Walk}

-- a board with the data written over its registers, which are then known
abbrev pub board_written : Board → List Transaction → Board
board_written b ts = board_of (all_written b.registers ts) (marks_of b.known ts)

-- what is left of a board: the data of an accepted list; after a refusal anything, but as many registers
abbrev pub Written : Judged (List Transaction) → Board → Board → Type 0
Written (accepted ts) before after = after ≡ board_written before ts
Written (refused n) before after = length after.registers ≡ length before.registers

-- the answer of a walk: how many transactions there are
abbrev pub count_of : Result Walk Refusal → Judged ℕ
count_of (Ok w) = accepted w.transactions
count_of (Err r) = refused (number_of r)

-- the known registers after it: as they were after a refusal
abbrev pub map_of : ℕ → Result Walk Refusal → ℕ
map_of known (Ok w) = w.known
map_of known (Err r) = known
