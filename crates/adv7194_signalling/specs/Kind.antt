-- Document 01, fields and refusals of field 11: the kind of signalling that register 19 holds. Bits 5 and 6 send CGMS in odd and even fields,
-- bit 7 sends WSS; both at once are refused 7; bit 4 with bits 5-7 clear is refused 4; off is bits 7-4 zero.
use Rattle.std.specs.Prelude.{cond, ◌||◌, ℕ, ℤ, Result, Ok, Err}
use Rattle.bits.specs.Maps.{has}
use Rattle.refusals.specs.declared.Refusal.{Refusal}
use Rattle.refusals.specs.Refusal.{Judged, accepted, refused, number_of}
use Rattle.field_table.specs.Blocks.{is}
use Rattle.adv7194_signalling.specs.declared.kind.SignallingKind.{SignallingKind}
use Rattle.adv7194_signalling.specs.declared.kind.SignallingKind.TheVariants as kind

-- one of five by what register 19 holds: CGMS and WSS at once, WSS, CGMS, bit 4 alone, off
abbrev pub by_kind : {A : Type 0} → ℕ → A → A → A → A → A → A
by_kind r19 both wss cgms chip off =
    cond (has r19 7) (cond (has r19 6 || has r19 5) both wss) (cond (has r19 6 || has r19 5) cgms (cond (has r19 4) chip off))

-- ---- the reader of the kind

-- the kind's number or its refusal
unfoldable pub kind_of : ℕ → Judged ℕ
kind_of r19 = by_kind r19 (refused 7) (accepted 2) (accepted 1) (refused 4) (accepted 0)

-- a kind's number in a setting
abbrev pub kind_number : SignallingKind → ℕ
kind_number kind.Off = 0
kind_number kind.Cgms = 1
kind_number kind.Wss = 2

-- a kind by its number, or the refusal by its number
abbrev pub kind_as : Result SignallingKind Refusal → Judged ℕ
kind_as (Ok k) = accepted (kind_number k)
kind_as (Err why) = refused (number_of why)

-- the kind that a setting's number names: another number is refused 3
abbrev pub kind_named : ℤ → Judged ℕ
kind_named z = cond (is 0 z) (accepted 0) (cond (is 1 z) (accepted 1) (cond (is 2 z) (accepted 2) (refused 3)))
