-- Document 01, "The bus and its three rules", of a board that is known in full, with no limit: a register is needed where the starting and the wanted image
-- differ, and a list ends in the wanted image where the chip's registers are that image, all 54 bytes of it.
use Rattle.std.specs.Prelude.{◌≡◌, ◌↔◌, true, List, ℕ, ◌<◌}
use Rattle.bus.specs.Registers.{differs}
use Rattle.bus.specs.Transactions.{Transaction}
use Rattle.bus.specs.Run.{run, list_events, idle_at}
use Rattle.adv7194_bus.specs.declared.board.Board.{Board}
use Rattle.adv7194_bus.specs.Board.{knows}
use Rattle.adv7194_bus.specs.Kind.{register_count, adv7194}
use Rattle.adv7194_bus.specs.Rules.{Rules}
use Rattle.adv7194_least.specs.Aim.{Aim, must, compared}
use Rattle.adv7194_least.specs.Reaching.{Reaches}
use Rattle.bits.specs.Lists.{Every}

-- all of a board's registers are known
abbrev pub KnownInFull : Board → Type 0
KnownInFull b = (r : ℕ) → r < register_count → knows b r ≡ true

-- document 01's words: a list keeps the three rules and, written to the chip's own address, ends in the wanted image
pub record EndsIn (own pointer : ℕ) (image wanted : List ℕ) (ts : List Transaction) : Type 0 where
  pub rules : Every Rules ts
  pub ends : (run (adv7194 own) (idle_at pointer image) (list_events own ts)).registers ≡ wanted

-- what is said of an aim is what document 01 says of its two images: the needed registers are those that differ, every register is compared and may be
-- touched, and the lists that reach are those that end in the wanted image
pub record AsInFull (a : Aim) : Type 0 where
  pub needed : (r : ℕ) → must a r ≡ differs a.board.registers a.wanted r
  pub compares : (r : ℕ) → r < register_count → compared a r ≡ true
  pub reaches : (own pointer : ℕ) (ts : List Transaction) → Reaches own pointer a ts ↔ EndsIn own pointer a.board.registers a.wanted ts
