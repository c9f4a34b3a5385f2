-- Document 01, "CGMS": the setting is a payload of 0 to 16383, C0 its lowest bit, and three yes/no: odd field, even field, chip check.
-- C0 to C13 are the payload's bits, C14 to C19 the check register's, its top bit first. C0-C7 are bits 0-7 of 1B, C8-C15 bits 0-7 of 1A,
-- C16-C19 bits 0-3 of 19; bit 4 of 19 is the chip check, bits 5 and 6 the odd and even field, bit 7 zero.
use Rattle.std.specs.Prelude.{Bool, false, cond, ◌&&◌, List, [], ◌∷◌, ◌++◌, ℕ, ℤ, nat_abs}
use Rattle.bits.specs.Strings.{lsb_first, msb_first}
use Rattle.refusals.specs.Refusal.{Judged, accepted, refused}
use Rattle.field_table.specs.Blocks.{is, between}
use Rattle.adv7194_signalling.specs.Word.{register_bytes}
use Rattle.adv7194_signalling.specs.Held.{Held}
use Rattle.adv7194_signalling.specs.declared.cgms.CgmsSetting.{CgmsSetting}
use Rattle.adv7194_signalling.specs.Check.{check_of}

-- the word's 24 bits: C0 to C19, then those of 19 from bit 4 up
unfoldable pub cgms_bits : ℕ → Bool → Bool → Bool → List Bool
cgms_bits payload odd even chip = lsb_first 14 payload ++ (msb_first 6 (check_of payload) ++ (chip ∷ odd ∷ even ∷ false ∷ []))

-- the bytes of registers 19, 1A and 1B that code a setting: payload, odd field, even field, chip check. Refused 3 where one is outside its range
unfoldable pub cgms_of : ℤ → ℤ → ℤ → ℤ → Judged (List ℕ)
cgms_of payload odd even chip =
    cond (between 0 16383 payload && between 0 1 odd && between 0 1 even && between 0 1 chip)
    (accepted (register_bytes (cgms_bits (nat_abs payload) (is 1 odd) (is 1 even) (is 1 chip))))
    (refused 3)

-- ---- the reader of a setting

-- a setting's coding
abbrev pub cgms_code : CgmsSetting → Judged (List ℕ)
cgms_code s = cgms_of s.payload s.odd s.even s.chip_check

-- an answer is the only setting that is coded as the bytes
abbrev pub CgmsHeld : List ℕ → Judged CgmsSetting → Type 0
CgmsHeld bytes answer = Held cgms_code 8 bytes answer
