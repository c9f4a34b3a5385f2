-- The number of a CGMS word, and the coding of a setting in its range. Assumes nothing.
use mathlib.Core.Path.{◌≡◌, ap}
use mathlib.Core.Bool.{Bool, true, false, ◌&&◌}
use mathlib.Core.List.{[], ◌∷◌, ◌++◌}
use Prim.Native.Nat.{ℕ, ◌+◌, ◌*◌, ◌^◌, ◌<◌}
use native.Mathlib.Omega.{arith}
use lib.Dec.{eqb}
use lib.IntN.{ℤ, nat_abs}
use Rattle.bits.specs.Strings.{lsb_first, msb_first, lsb_value, bit_value}
use Rattle.bits.proofs.StringLaws.{lsb_length, msb_length, lsb_value_lem, lsb_value-lt}
use Rattle.refusals.specs.Refusal.{accepted, refused}
use Rattle.field_table.specs.Blocks.{is, between}
use Rattle.adv7194_signalling.specs.Check.{check_of, reversed}
use Rattle.adv7194_signalling.specs.Cgms.{cgms_bits, cgms_of}
use Rattle.adv7194_signalling.proofs.FlagLaws.{both}
use Rattle.adv7194_signalling.proofs.NumberLaws.{Within, is_within, yes_is}
use Rattle.adv7194_signalling.proofs.CheckLaws.{reversed-lt}
use Rattle.adv7194_signalling.proofs.WordLaws.{value-append, word_bytes, bytes_of_value}

-- the check bits' part of the number
abbrev pub check_part : ℕ → ℕ
check_part payload = reversed (check_of payload)

pub check_part_lt : (payload : ℕ) → check_part payload < 64
check_part_lt payload = reversed-lt (check_of payload)

-- the number of a CGMS word
pub cgms-value : (payload : ℕ) (odd even chip : Bool) → payload < 2 ^ 14
    → lsb_value (cgms_bits payload odd even chip)
    ≡ payload + check_part payload * 0x4000 + bit_value chip * 0x100000 + bit_value odd * 0x200000 + bit_value even * 0x400000
unfolding cgms_bits lsb_value
cgms-value payload odd even chip h =
    let check = msb_first 6 (check_of payload) in
    let flags = chip ∷ odd ∷ even ∷ false ∷ [] in
    let upper : lsb_value (check ++ flags) ≡ lsb_value check + 2 ^ 6 * lsb_value flags = rw (msb_length 6 (check_of payload)) at (value-append check flags) in
    let whole : lsb_value (lsb_first 14 payload ++ (check ++ flags)) ≡ lsb_value (lsb_first 14 payload) + 2 ^ 14 * lsb_value (check ++ flags) =
    rw (lsb_length 14 payload) at (value-append (lsb_first 14 payload) (check ++ flags)) in
    omega (arith, whole, upper, lsb_value_lem 14 payload h)

-- it has 24 bits
pub cgms-lt : (payload : ℕ) (odd even chip : Bool) → lsb_value (cgms_bits payload odd even chip) < 2 ^ 24
unfolding cgms_bits lsb_first msb_first
cgms-lt payload odd even chip = lsb_value-lt (cgms_bits payload odd even chip)

-- whether the four numbers are in their ranges
abbrev pub inside : ℤ → ℤ → ℤ → ℤ → Bool
inside payload odd even chip = between 0 16383 payload && between 0 1 odd && between 0 1 even && between 0 1 chip

-- a setting in its range
pub record Inside (payload odd even chip : ℤ) : Type 0 where
  pub payload_in : Within 16383 payload
  pub odd_in_lem : Within 1 odd
  pub even_in : Within 1 even
  pub chip_in : Within 1 chip

pub is-inside : (payload odd even chip : ℤ) → inside payload odd even chip ≡ true → Inside payload odd even chip
is-inside payload odd even chip h =
    let three = both (between 0 16383 payload && between 0 1 odd && between 0 1 even) (between 0 1 chip) h in
    let two = both (between 0 16383 payload && between 0 1 odd) (between 0 1 even) three.0 in
    let one = both (between 0 16383 payload) (between 0 1 odd) two.0 in
    record {
      payload_in = is_within 16383 payload one.0;
      odd_in_lem = is_within 1 odd one.1;
      even_in = is_within 1 even two.1;
      chip_in = is_within 1 chip three.1;
    }

-- the number of its word
abbrev pub cgms_number : ℤ → ℤ → ℤ → ℤ → ℕ
cgms_number payload odd even chip = lsb_value (cgms_bits (nat_abs payload) (is 1 odd) (is 1 even) (is 1 chip))

-- the same by magnitudes
pub by_magnitudes : {payload odd even chip : ℤ} → Inside payload odd even chip
    → lsb_value (cgms_bits (nat_abs payload) (eqb (nat_abs odd) 1) (eqb (nat_abs even) 1) (eqb (nat_abs chip) 1)) ≡ cgms_number payload odd even chip
by_magnitudes i = rw (yes_is _ i.odd_in_lem, yes_is _ i.even_in, yes_is _ i.chip_in)

-- its coding
pub cgms_coded : (payload odd even chip : ℤ) → inside payload odd even chip ≡ true
    → cgms_of payload odd even chip ≡ accepted (word_bytes (cgms_number payload odd even chip))
unfolding cgms_of
cgms_coded payload odd even chip h = rw h (ap accepted (bytes_of_value (cgms_bits (nat_abs payload) (is 1 odd) (is 1 even) (is 1 chip))))

-- outside its range it is refused
pub cgms-outside : (payload odd even chip : ℤ) → inside payload odd even chip ≡ false → cgms_of payload odd even chip ≡ refused 3
unfolding cgms_of
cgms-outside payload odd even chip h = rw h
