-- Document 01, "Refusals", and document 02, P13: playing takes the address used and the chip's own, checks 1, 2 for either, then 9, and answers the image and
-- whether every byte was acknowledged. A refusal writes nothing. The packing allows any order and overlap; playing gives 9 too where the 3E before a flip of
-- MR36 is missing, whatever the addresses.
use Rattle.std.specs.Prelude.{Bool, ◌&&◌, List, ℕ, Result, Ok, Err}
use Rattle.refusals.specs.Refusal.{Judged, number_of}
use Rattle.refusals.specs.declared.Refusal.{Refusal}
use Rattle.refusals.specs.Verdict.{Verdict, good, refused_at}
use Rattle.bus.specs.Transactions.{Transaction}
use Rattle.bus.specs.Run.{idle_at}
use Rattle.packing.specs.Packing.{anywhere}
use Rattle.unpacking.specs.Unpacking.{unpack_by}
use Rattle.playing.specs.Playing.{Call}
use Rattle.adv7195_bus.specs.Kind.{adv7195}
use Rattle.adv7195_bus.specs.Rules.{Rules, all_keep_rules}
use Rattle.adv7195_bus.specs.Order.{Ordered, keeps_order}
use Rattle.bits.specs.Lists.{Every}

-- the transactions that a plan's bytes are the packing of, in any order and overlap, or refusal 9
abbrev pub unpacked : List ℕ → Judged (List Transaction)
unpacked plan = unpack_by anywhere plan

-- a list keeps the rule and the order, of the chip that holds an image
abbrev pub Takes : ℕ → List ℕ → List Transaction → Type 0
Takes own image ts = Every Rules ts × Ordered (adv7195 own) (idle_at 0 image) ts

-- as a test of an unpacked list, which is the same (theorem `test_holds` of proofs/Rows.antt)
abbrev pub takes : List ℕ → List Transaction → Bool
takes image ts = all_keep_rules ts && keeps_order image ts

-- the call to play a plan's bytes, sent at the address used, against a chip of its own address that holds an image
abbrev pub call_of : List ℕ → ℕ → ℕ → List ℕ → Call
call_of image used own plan = record { kind = adv7195 own; next = anywhere; takes = takes image; image = image; used = used; plan = plan }

-- the answer as document 01 has it
abbrev pub answer_of : Result Bool Refusal → Verdict Bool
answer_of (Ok b) = good b
answer_of (Err r) = refused_at (number_of r) 0
