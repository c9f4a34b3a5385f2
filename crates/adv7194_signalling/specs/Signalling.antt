-- Document 01, field 11: off, CGMS or WSS. Its setting is five numbers: the kind (0 off, 1 CGMS, 2 WSS), payload or WSS number, and three yes/no: odd
-- field, even field, chip check. Numbers that a kind doesn't use are 0 when read.
use Rattle.std.specs.Prelude.{Bool, true, false, cond, ◌&&◌, ◌||◌, List, [], ◌∷◌, ℕ, ◌+◌, ◌*◌, ◌%◌, ◌^◌, ℤ, pos, get_or}
use Rattle.bits.specs.Bytes.{same_bytes}
use Rattle.bits.specs.Fields.{bit}
use Rattle.refusals.specs.Refusal.{Judged, accepted, refused}
use Rattle.field_table.specs.Blocks.{is}
use Rattle.adv7194_signalling.specs.Cgms.{cgms_of}
use Rattle.adv7194_signalling.specs.Wss.{wss_of}
use Rattle.adv7194_signalling.specs.Kind.{by_kind}

-- a setting's numbers: kind, payload or WSS number, odd field, even field, chip check
abbrev pub number_of : List ℤ → ℕ → ℤ
number_of zs i = get_or zs i (pos 0)

-- the bytes of 19, 1A and 1B that code a setting; none for off, which sets bits 7-4 of 19 only
unfoldable pub signalling_codes : List ℤ → Judged (List ℕ)
signalling_codes zs =
    cond (is 0 (number_of zs 0)) (accepted [])
    (cond (is 1 (number_of zs 0)) (cgms_of (number_of zs 1) (number_of zs 2) (number_of zs 3) (number_of zs 4))
    (cond (is 2 (number_of zs 0)) (wss_of (number_of zs 1)) (refused 3)))

-- row 7 of the refusals: CGMS with PAL, WSS with NTSC, CGMS for neither field. The standard is 0 for NTSC, 1 for PAL
abbrev pub signalling_conflict : ℤ → List ℤ → Bool
signalling_conflict standard zs =
    is 1 (number_of zs 0) && (is 1 standard || is 0 (number_of zs 2) && is 0 (number_of zs 3)) || is 2 (number_of zs 0) && is 0 standard

-- no signalling
abbrev pub no_signalling : List ℤ
no_signalling = pos 0 ∷ pos 0 ∷ pos 0 ∷ pos 0 ∷ pos 0 ∷ []

-- bytes are a coding's
abbrev pub coded_so : Judged (List ℕ) → List ℕ → Bool
coded_so (accepted bs) bytes = same_bytes bs bytes
coded_so (refused n) bytes = false

-- the setting that stands in the bits where the bytes are its coding, else the refusal of this number
abbrev pub held_by : List ℤ → ℕ → List ℕ → Judged (List ℤ)
held_by zs number bytes = cond (coded_so (signalling_codes zs) bytes) (accepted zs) (refused number)

-- the number in bits 0-7 of 1B and bits 0-5 of 1A, of the bytes of 19, 1A and 1B
abbrev pub number_in : List ℕ → ℕ
number_in bytes = get_or bytes 2 0 + 2 ^ 8 * (get_or bytes 1 0 % 2 ^ 6)

-- CGMS that three bytes hold: bits 5, 6 and 4 of 19 are odd field, even field and chip check. Refused 8 where the check bits don't agree with the payload
unfoldable pub cgms_held : List ℕ → Judged (List ℤ)
cgms_held bytes =
    let r19 = get_or bytes 0 0 in
    held_by (pos 1 ∷ pos (number_in bytes) ∷ pos (bit 5 r19) ∷ pos (bit 6 r19) ∷ pos (bit 4 r19) ∷ []) 8 bytes

-- WSS that they hold. Refused 4 where they are no number's: a zero bit is set, bit 7 of 19 is not, or the count of ones is even
unfoldable pub wss_held : List ℕ → Judged (List ℤ)
wss_held bytes = held_by (pos 2 ∷ pos (number_in bytes) ∷ pos 0 ∷ pos 0 ∷ pos 0 ∷ []) 4 bytes

-- the setting that they hold, or its refusal
unfoldable pub signalling_held : List ℕ → Judged (List ℤ)
signalling_held bytes = by_kind (get_or bytes 0 0) (refused 7) (wss_held bytes) (cgms_held bytes) (refused 4) (accepted no_signalling)

-- row 7 as it holds of bytes read: both at once, WSS with NTSC, CGMS with PAL
abbrev pub held_conflict : ℤ → List ℕ → Bool
held_conflict standard bytes = by_kind (get_or bytes 0 0) true (is 0 standard) (is 1 standard) false false
