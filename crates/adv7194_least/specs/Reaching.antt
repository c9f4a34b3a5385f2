-- Document 01, "The bus and its three rules": a list ends in the registers that an idle chip holding the starting image has after the list's events,
-- transaction after transaction. Document 02, P5: the starting image is what the chip holds in the known registers; a list ends in given registers only
-- where it does so whatever the unknown ones held, those neither known nor needed left out of the comparison. P6: the lists keep the limit too.
use Rattle.std.specs.Prelude.{◌≡◌, true, List, ℕ, ◌≤◌, ◌<◌, ◌^◌, length, get_or}
use Rattle.bus.specs.Transactions.{Transaction, size, Touches}
use Rattle.bus.specs.Run.{idle_at, run, list_events}
use Rattle.adv7194_bus.specs.declared.board.Board.{Board}
use Rattle.adv7194_bus.specs.Board.{knows}
use Rattle.adv7194_bus.specs.Kind.{register_count, adv7194}
use Rattle.adv7194_bus.specs.Rules.{Rules}
use Rattle.adv7194_least.specs.Aim.{Aim, compared}
use Rattle.bits.specs.Lists.{Every}

-- what a chip may hold of which a board is known: a byte a register, and the board's in those that are known
pub record MayHold (b : Board) (image : List ℕ) : Type 0 where
  pub size : length image ≡ register_count
  pub bytes : (r : ℕ) → get_or image r 0 < 2 ^ 8
  pub agrees : (r : ℕ) → knows b r ≡ true → get_or image r 0 ≡ get_or b.registers r 0

-- registers are the wanted ones, where they are compared
abbrev pub AsWanted : Aim → List ℕ → Type 0
AsWanted a registers = (r : ℕ) → r < register_count → compared a r ≡ true → get_or registers r 0 ≡ get_or a.wanted r 0

-- a list keeps the three rules and the limit, touches no unknown register that isn't needed and, written to the chip's own address, ends in the wanted
-- registers, whatever the unknown ones held
pub record Reaches (own pointer : ℕ) (a : Aim) (ts : List Transaction) : Type 0 where
  pub rules : Every Rules ts
  pub limited : Every (λ (t : Transaction). size t ≤ a.limit) ts
  pub clear : Every (λ (t : Transaction). (r : ℕ) → Touches t r → compared a r ≡ true) ts
  pub ends : (image : List ℕ) → MayHold a.board image → AsWanted a (run (adv7194 own) (idle_at pointer image) (list_events own ts)).registers
