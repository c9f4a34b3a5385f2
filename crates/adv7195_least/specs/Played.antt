-- Document 01, demand 2, and document 02, P13: the plan's bytes pack, in any order, a list that keeps the rule and the order, is acknowledged throughout
-- and leaves the wanted image.
use Rattle.std.specs.Prelude.{◌≡◌, true, List, ℕ}
use Rattle.refusals.specs.Verdict.{good}
use Rattle.bus.specs.Transactions.{Transaction}
use Rattle.bus.specs.Run.{idle_at, all_acknowledged, list_events}
use Rattle.bus.specs.Address.{address_right}
use Rattle.packing.specs.Packing.{anywhere, Packs}
use Rattle.adv7195_bus.specs.Kind.{adv7195}
use Rattle.playing.specs.Playing.{play_of, registers_left}
use Rattle.adv7195_playing.specs.Playing.{call_of}
use Rattle.adv7195_least.specs.Reaching.{Reaches}

-- what a plan's bytes do to a chip that holds the starting image, at every address and pointer; and what playing them answers and leaves
pub record Played (image wanted plan : List ℕ) : Type 0 where
  pub list : List Transaction
  pub packs : Packs anywhere plan list
  pub reaches : (own pointer : ℕ) → Reaches own pointer image wanted list
  pub acknowledged : (own pointer : ℕ) → all_acknowledged (adv7195 own) (idle_at pointer image) (list_events own list) ≡ true
  pub answer : (own : ℕ) → address_right own ≡ true → play_of (call_of image own own plan) ≡ good true
  pub leaves : (own : ℕ) → address_right own ≡ true → registers_left (call_of image own own plan) ≡ wanted
