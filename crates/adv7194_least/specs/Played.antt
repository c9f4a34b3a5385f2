-- Document 01, demand 2: the plan's bytes pack a list that keeps the rules, is acknowledged throughout and leaves the wanted image. Document 02, P5: on
-- whatever the chip may hold; and playing leaves exactly the registers known or needed known.
use Rattle.std.specs.Prelude.{◌≡◌, true, false, List, ℕ, ◌≤◌, ◌<◌, length, get_or}
use Rattle.refusals.specs.Verdict.{good}
use Rattle.bus.specs.Transactions.{Transaction}
use Rattle.bus.specs.Run.{all_acknowledged, list_events, idle_at}
use Rattle.packing.specs.Packing.{behind, Packs}
use Rattle.adv7194_bus.specs.Kind.{register_count, adv7194}
use Rattle.adv7194_bus.specs.declared.board.Board.{Board}
use Rattle.adv7194_bus.specs.Board.{knows}
use Rattle.adv7194_bus.specs.Rules.{all_keep_rules}
use Rattle.bus.specs.Address.{address_right}
use Rattle.playing.specs.Playing.{play_of}
use Rattle.adv7194_playing.specs.Playing.{call_of, played_board}
use Rattle.adv7194_least.specs.Aim.{Aim, compared}
use Rattle.adv7194_least.specs.Reaching.{MayHold, AsWanted, Reaches}

-- a board as playing leaves it: exactly the registers known or needed are known, each with its wanted byte, every other byte and flag as handed in
pub record Leaves (a : Aim) (after : Board) : Type 0 where
  pub size : length after.registers ≡ length a.board.registers
  pub known : (r : ℕ) → r < register_count → knows after r ≡ compared a r
  pub wanted : AsWanted a after.registers
  pub others : (r : ℕ) → r < register_count → compared a r ≡ false → get_or after.registers r 0 ≡ get_or a.board.registers r 0
  pub past : (r : ℕ) → register_count ≤ r → knows after r ≡ knows a.board r

-- demand 2: what a plan's bytes do to a chip that holds what is known of the board, at every address and pointer; and what playing them answers and leaves
pub record Played (a : Aim) (plan : List ℕ) : Type 0 where
  pub list : List Transaction
  pub packs : Packs behind plan list
  pub reaches : (own pointer : ℕ) → Reaches own pointer a list
  pub acknowledged : (own pointer : ℕ) (image : List ℕ) → MayHold a.board image
      → all_acknowledged (adv7194 own) (idle_at pointer image) (list_events own list) ≡ true
  pub answer : (own : ℕ) → address_right own ≡ true → play_of (call_of all_keep_rules a.board own own plan) ≡ good true
  pub leaves : (own : ℕ) → address_right own ≡ true → Leaves a (played_board all_keep_rules a.board own own plan)
