-- Document 02, P5: of a board we may know only some registers. A stored byte makes its register known; a byte that is dropped, and one that is read, make
-- none known. Known registers are a map: bit r for register r.
use Rattle.std.specs.Prelude.{cond, List, [], ◌∷◌, ℕ, zero, suc, ◌+◌, ◌^◌}
use Rattle.bits.specs.Maps.{has}
use Rattle.bus.specs.declared.chip.Event.{Event}
use Rattle.bus.specs.Transactions.{Transaction, size}
use Rattle.bus.specs.Chip.{Kind, Chip, step}

-- the map with register r in it
abbrev pub mark : ℕ → ℕ → ℕ
mark map r = cond (has map r) map (map + 2 ^ r)

-- the map with the n registers from r on in it
unfoldable pub marks : ℕ → ℕ → ℕ → ℕ
marks map r zero = map
marks map r (suc n) = marks (mark map r) (suc r) n

-- the map with the registers of every transaction of a list in it
unfoldable pub marks_of : ℕ → List Transaction → ℕ
marks_of map [] = map
marks_of map (t ∷ ts) = marks_of (marks map t.subaddress (size t)) ts

-- the known registers after an event
unfoldable pub known_by : Kind → Chip → ℕ → Event → ℕ
known_by κ c known e = cond (step κ c e).stored (mark known c.pointer) known

-- the known registers after some events
unfoldable pub known_after : Kind → Chip → ℕ → List Event → ℕ
known_after κ c known [] = known
known_after κ c known (e ∷ es) = known_after κ (step κ c e).chip (known_by κ c known e) es
