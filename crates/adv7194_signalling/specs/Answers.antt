-- What each case of the answers on field 11 stands for in document 01: its value, or the number of its refusal.
use Rattle.std.specs.Prelude.{List, [], ◌∷◌, ℕ, ℤ, pos, Option, None, Some, Result, Ok, Err}
use Rattle.refusals.specs.declared.Refusal.{Refusal}
use Rattle.refusals.specs.Refusal.{Judged, accepted, refused, number_of}
use Rattle.adv7194_signalling.specs.Word.{three_bytes}
use Rattle.adv7194_signalling.specs.declared.cgms.CgmsSetting.{CgmsSetting}
use Rattle.adv7194_signalling.specs.declared.field.Signalling.{Signalling}
use Rattle.adv7194_signalling.specs.declared.registers.Registers.{Registers}

-- a setting's numbers
abbrev pub numbers_of : Signalling → List ℤ
numbers_of s = s.kind ∷ s.number ∷ s.odd ∷ s.even ∷ s.chip_check ∷ []

-- the numbers of a CGMS setting
abbrev pub cgms_setting_numbers : CgmsSetting → List ℤ
cgms_setting_numbers s = pos 1 ∷ s.payload ∷ s.odd ∷ s.even ∷ s.chip_check ∷ []

-- the numbers of CGMS that its reader answers
abbrev pub cgms_numbers : Judged CgmsSetting → Judged (List ℤ)
cgms_numbers (accepted s) = accepted (cgms_setting_numbers s)
cgms_numbers (refused n) = refused n

-- the numbers of WSS that its reader answers
abbrev pub wss_numbers : Judged ℤ → Judged (List ℤ)
wss_numbers (accepted z) = accepted (pos 2 ∷ z ∷ pos 0 ∷ pos 0 ∷ pos 0 ∷ [])
wss_numbers (refused n) = refused n

-- the bytes of registers, none where there are none
abbrev pub bytes_of : Option Registers → List ℕ
bytes_of None = []
bytes_of (Some r) = three_bytes r

-- the bytes of a coding, none for off, or the refusal by its number
abbrev pub code_as : Result (Option Registers) Refusal → Judged (List ℕ)
code_as (Ok r) = accepted (bytes_of r)
code_as (Err why) = refused (number_of why)

-- the numbers read, or the refusal by its number
abbrev pub read_as : Result Signalling Refusal → Judged (List ℤ)
read_as (Ok s) = accepted (numbers_of s)
read_as (Err why) = refused (number_of why)
