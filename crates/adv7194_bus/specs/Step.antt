-- Document 01, "The bus and its three rules": one event at an ADV7194.
use Rattle.std.specs.Prelude.{List, ℕ}
use Rattle.bus.specs.declared.chip.State.{State}
use Rattle.bus.specs.declared.chip.Event.{Event}
use Rattle.bus.specs.Chip.{Outcome, step}
use Rattle.bus.specs.Lent.{chip_at}
use Rattle.adv7194_bus.specs.Kind.{adv7194}

-- what an event brings at an ADV7194 of this address, in this state and with these registers
abbrev pub step_by : ℕ → State → List ℕ → Event → Outcome
step_by own s registers e = step (adv7194 own) (chip_at s.phase s.pointer registers) e
