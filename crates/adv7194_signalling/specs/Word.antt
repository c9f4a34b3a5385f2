-- Document 01, "CGMS" and "WSS": bits 0-7 of the signalling word are those of register 1B, the next eight those of 1A, the last eight those of 19.
use Rattle.std.specs.Prelude.{Bool, List, [], ◌∷◌, ℕ, take, drop, Result, Ok, Err}
use Rattle.bits.specs.Strings.{lsb_value}
use Rattle.refusals.specs.declared.Refusal.{Refusal}
use Rattle.refusals.specs.Refusal.{Judged, accepted, refused, number_of}
use Rattle.adv7194_signalling.specs.declared.registers.Registers.{Registers}

-- the bytes of registers 19, 1A and 1B that a word of 24 bits, lowest first, is
abbrev pub register_bytes : List Bool → List ℕ
register_bytes bs = lsb_value (drop 16 bs) ∷ lsb_value (take 8 (drop 8 bs)) ∷ lsb_value (take 8 bs) ∷ []

-- the three bytes as the code holds them
abbrev pub three_bytes : Registers → List ℕ
three_bytes r = r.r19 ∷ r.r1a ∷ r.r1b ∷ []

-- what a coding answers: the three bytes, or the refusal by its number
abbrev pub coded_as : Result Registers Refusal → Judged (List ℕ)
coded_as (Ok r) = accepted (three_bytes r)
coded_as (Err why) = refused (number_of why)
