-- Document 01, "WSS": the setting is a number of 0 to 16383, W0 its lowest bit. W0-W7 in bits 0-7 of 1B, W8-W13 in bits 0-5 of 1A, bit 7
-- of 19 set; the other bits of 19 and 1A are zero. W0 to W3 hold an odd number of ones.
use Rattle.std.specs.Prelude.{Bool, true, false, cond, List, [], ◌∷◌, ◌++◌, ℕ, ℤ, nat_abs, replicate}
use Rattle.bits.specs.Strings.{lsb_first}
use Rattle.bits.specs.Parity.{odd_in}
use Rattle.refusals.specs.Refusal.{Judged, accepted, refused}
use Rattle.field_table.specs.Blocks.{between}
use Rattle.adv7194_signalling.specs.Held.{Held}
use Rattle.adv7194_signalling.specs.Word.{register_bytes}

-- the word's 24 bits: W0 to W13, zeros, and bit 7 of 19
unfoldable pub wss_bits : ℕ → List Bool
wss_bits number = lsb_first 14 number ++ (replicate 9 false ++ (true ∷ []))

-- the bytes of registers 19, 1A and 1B that code a number. Refused 3 where it is outside its range, 4 where W0 to W3 hold an even number of ones
unfoldable pub wss_of : ℤ → Judged (List ℕ)
wss_of number =
    cond (between 0 16383 number)
    (cond (odd_in 4 (nat_abs number)) (accepted (register_bytes (wss_bits (nat_abs number)))) (refused 4))
    (refused 3)

-- ---- the reader of a number

-- an answer is the only number that is coded as the bytes
abbrev pub WssHeld : List ℕ → Judged ℤ → Type 0
WssHeld bytes answer = Held wss_of 4 bytes answer
