-- Document 01, "The bus and its three rules", and document 02, P13: a list keeps the rule and the order, and ends in the registers that an idle chip holding
-- the starting image has after the list's events, transaction after transaction.
use Rattle.std.specs.Prelude.{◌≡◌, true, List, ℕ, ◌^◌, ◌<◌, length, get_or}
use Rattle.bus.specs.Transactions.{Transaction}
use Rattle.bus.specs.Run.{idle_at, run, list_events}
use Rattle.adv7195_bus.specs.Kind.{register_count, unnamed, adv7195}
use Rattle.adv7195_bus.specs.Rules.{Rules}
use Rattle.adv7195_bus.specs.Order.{Ordered}
use Rattle.bits.specs.Lists.{Every}

-- from a starting image to a wanted one: both have a byte a register, and they agree on the registers that 001 doesn't name
pub record Change (image wanted : List ℕ) : Type 0 where
  pub found : length image ≡ register_count
  pub wants : length wanted ≡ register_count
  pub bytes : (r : ℕ) → get_or wanted r 0 < 2 ^ 8
  pub kept : (r : ℕ) → unnamed r ≡ true → get_or wanted r 0 ≡ get_or image r 0

-- a list keeps the rule and the order and, written to the chip's own address, ends in the wanted image
pub record Reaches (own pointer : ℕ) (image wanted : List ℕ) (ts : List Transaction) : Type 0 where
  pub rules : Every Rules ts
  pub ordered : Ordered (adv7195 own) (idle_at pointer image) ts
  pub ends : (run (adv7195 own) (idle_at pointer image) (list_events own ts)).registers ≡ wanted
