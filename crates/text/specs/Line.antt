-- Document 01, "Promises with no slack": the contents of any memory lent are stated for all inputs. A text is appended to a lent line at a place;
-- a line too short has none, and stays as it was.
use Rattle.std.specs.Prelude.{Bool, cond, List, ◌++◌, ℕ, ◌+◌, leb, length, take, drop, replicate, Option, Some, None}

-- that many zero bytes
abbrev pub zeros : ℕ → List ℕ
zeros n = replicate n 0

-- the line has room for n bytes at a place
abbrev pub room : List ℕ → ℕ → ℕ → Bool
room line at n = leb (at + n) (length line)

-- the place after a text appended at a place, or none: the line is too short for it
unfoldable pub place_after : List ℕ → ℕ → List ℕ → Option ℕ
place_after line at text = cond (room line at (length text)) (Some (at + length text)) None

-- the line with a text appended at a place, or as it was where it is too short for it
unfoldable pub appended : List ℕ → ℕ → List ℕ → List ℕ
appended line at text = cond (room line at (length text)) (take at line ++ text ++ drop (at + length text) line) line
