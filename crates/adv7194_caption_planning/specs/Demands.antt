-- Document 02, P4: what a plan of captions does. Each pair is a transaction of its own, written even where the byte is unchanged; the chip then holds
-- these bytes, and reading a pair back gives its characters.
use Rattle.std.specs.Prelude.{◌≡◌, ◌≢◌, true, List, ◌∷◌, ◌++◌, ℕ, ◌<◌, eqb, ℤ, pos, nat_abs, length, get_or}
use Rattle.refusals.specs.Verdict.{good}
use Rattle.bus.specs.Transactions.{Transaction, Touched}
use Rattle.bits.specs.Maps.{has}
use Rattle.bus.specs.declared.chip.Event.{Event}
use Rattle.bus.specs.declared.chip.Acknowledge.TheVariants.{Acknowledged}
use Rattle.bus.specs.Chip.{Chip, step}
use Rattle.bus.specs.Known.{known_after}
use Rattle.bus.specs.Run.{run, all_acknowledged, list_events}
use Rattle.packing.specs.Packing.{behind, Packs}
use Rattle.least_cost.specs.Order.{Holds}
use Rattle.adv7194_bus.specs.Kind.{register_count, adv7194}
use Rattle.adv7194_bus.specs.declared.board.Board.{Board}
use Rattle.adv7194_bus.specs.Board.{board_of}
use Rattle.bus.specs.Address.{address_right}
use Rattle.adv7194_captions.specs.Pairs.{caption_list}
use Rattle.adv7194_captions.specs.Plans.{are_captions}
use Rattle.adv7194_captions.specs.Reading.{caption_reading}
use Rattle.playing.specs.Playing.{play_of}
use Rattle.adv7194_playing.specs.Playing.{call_of}
use Rattle.bits.specs.Lists.{Every}

-- the most bytes that a packed plan of captions has
abbrev pub caption_bytes : ℕ
caption_bytes = 8

-- what a list leaves: its data, and every register that it doesn't touch as it was
pub record Leaves (ts : List Transaction) (before after : List ℕ) : Type 0 where
  pub size : length after ≡ length before
  pub held : Every (Holds (λ r. get_or after r 0)) ts
  pub kept : (r : ℕ) → (Touched ts r → ⊥) → get_or after r 0 ≡ get_or before r 0

-- reading a pair, where it was given, gives its characters
abbrev pub ReadsBack : Board → ℕ → List ℤ → Type 0
ReadsBack b pair zs =
    0 < length zs → caption_reading b pair ≡ good (record { first = nat_abs (get_or zs 0 (pos 0)); second = nat_abs (get_or zs 1 (pos 0)) })

-- the registers that a list makes known: those that it touches
pub record MakesKnown (ts : List Transaction) (before after : ℕ) : Type 0 where
  pub touched : (r : ℕ) → Touched ts r → has after r ≡ true
  pub kept : (r : ℕ) → (Touched ts r → ⊥) → has after r ≡ has before r

-- a plan's bytes are those of the pairs: they pack their list; the call that plays captions takes them for every right pair of addresses, and at the
-- chip's own alone they are acknowledged. The chip, whatever it waits for and points at, acknowledges every byte at its own address, then holds the
-- pairs' bytes, which are known then, every other register and flag as it was, and reads them back; at another address it acknowledges nothing and stores
-- nothing
pub record CaptionsPlayed (extended ordinary : List ℤ) (plan : List ℕ) : Type 0 where
  pub packs : Packs behind plan (caption_list extended ordinary)
  pub answer : (b : Board) (used own : ℕ) → length b.registers ≡ register_count → address_right used ≡ true → address_right own ≡ true
      → play_of (call_of are_captions b used own plan) ≡ good (eqb used own)
  pub acknowledged : (own : ℕ) (c : Chip) → all_acknowledged (adv7194 own) c (list_events own (caption_list extended ordinary)) ≡ true
  pub leaves : (own : ℕ) (c : Chip) → length c.registers ≡ register_count
      → Leaves (caption_list extended ordinary) c.registers (run (adv7194 own) c (list_events own (caption_list extended ordinary))).registers
  pub known : (own : ℕ) (c : Chip) (known : ℕ)
      → MakesKnown (caption_list extended ordinary) known (known_after (adv7194 own) c known (list_events own (caption_list extended ordinary)))
  pub reads : (own : ℕ) (c : Chip) (known : ℕ) → length c.registers ≡ register_count
      → (let es = list_events own (caption_list extended ordinary) in
      let left = board_of (run (adv7194 own) c es).registers (known_after (adv7194 own) c known es) in
      ReadsBack left 0 extended × ReadsBack left 1 ordinary)
  pub elsewhere : (used own : ℕ) (c : Chip) (known : ℕ) → used ≢ own → address_right used ≡ true → address_right own ≡ true
      → ((before : List Event) (e : Event) (rest : List Event) → list_events used (caption_list extended ordinary) ≡ before ++ (e ∷ rest)
      → (step (adv7194 own) (run (adv7194 own) c before) e).acknowledge ≢ Acknowledged)
      × (((run (adv7194 own) c (list_events used (caption_list extended ordinary))).registers ≡ c.registers)
      × (known_after (adv7194 own) c known (list_events used (caption_list extended ordinary)) ≡ known))
