-- Document 01, "Refusals": playing takes the address used and the chip's own, checks 1, 2 for either, then 9, and answers the image and whether
-- every byte was acknowledged. A refusal writes nothing. Document 02, P4: another play call takes just the plans of captions, by 1, 2, 9. P5: the image
-- goes with its known registers, and playing answers which are known after it.
use Rattle.std.specs.Prelude.{Bool, List, ℕ, Result, Ok, Err}
use Rattle.refusals.specs.Refusal.{number_of}
use Rattle.refusals.specs.declared.Refusal.{Refusal}
use Rattle.refusals.specs.Verdict.{Verdict, good, refused_at}
use Rattle.bus.specs.Transactions.{Transaction}
use Rattle.packing.specs.Packing.{behind}
use Rattle.playing.specs.Playing.{Call, registers_left, known_left}
use Rattle.adv7194_bus.specs.Kind.{adv7194}
use Rattle.adv7194_bus.specs.declared.board.Board.{Board}
use Rattle.adv7194_bus.specs.Board.{board_of}
use Rattle.adv7194_bus.specs.Rules.{Rules, all_keep_rules}
use Rattle.adv7194_captions.specs.Plans.{Captions as CaptionsOf, are_captions}
use Rattle.adv7194_playing.specs.declared.PlanKind.{PlanKind}
use Rattle.adv7194_playing.specs.declared.PlanKind.TheVariants.{Settings, Captions}
use Rattle.adv7194_playing.specs.declared.Played.{Played}
use Rattle.bits.specs.Lists.{Every}

-- the lists that a play call takes: those that keep the three rules, or those of captions
abbrev pub Takes : PlanKind → List Transaction → Type 0
Takes Settings ts = Every Rules ts
Takes Captions ts = CaptionsOf ts

-- as a test of an unpacked list, which is the same (theorem `test_holds` of proofs/Rows.antt)
abbrev pub takes : PlanKind → List Transaction → Bool
takes Settings ts = all_keep_rules ts
takes Captions ts = are_captions ts

-- the call to play a plan's bytes, sent at the address used, against a chip of its own address that holds a board's registers; a test says which lists it
-- takes
abbrev pub call_of : (List Transaction → Bool) → Board → ℕ → ℕ → List ℕ → Call
call_of test b used own plan = record { kind = adv7194 own; next = behind; takes = test; image = b.registers; used = used; plan = plan }

-- the board that it leaves
abbrev pub played_board : (List Transaction → Bool) → Board → ℕ → ℕ → List ℕ → Board
played_board test b used own plan = board_of (registers_left (call_of test b used own plan)) (known_left (call_of test b used own plan) b.known)

-- the answer as document 01 has it
abbrev pub answer_of : Result Played Refusal → Verdict Bool
answer_of (Ok p) = good p.acknowledged
answer_of (Err r) = refused_at (number_of r) 0

-- the known registers after an answer: as they were after a refusal
abbrev pub known_of : ℕ → Result Played Refusal → ℕ
known_of known (Ok p) = p.known
known_of known (Err r) = known
