-- What a CGMS word says of the setting that it codes. Assumes nothing.
use mathlib.Core.Path.{◌≡◌, sym, ap, ◌∙◌}
use mathlib.Core.Bool.{true, false}
use mathlib.Core.List.{List}
use mathlib.Core.Logic.{◌⊎◌, inl, inr}
use Prim.Native.Nat.{ℕ, ◌/◌, ◌%◌, ◌<◌}
use native.Mathlib.Omega.{arith}
use lib.Dec.{eqb}
use lib.IntN.{ℤ, pos, nat_abs}
use Rattle.bits.specs.Strings.{lsb_value, bit_value}
use Rattle.refusals.specs.Refusal.{accepted}
use Rattle.rounding.proofs.First.{flag}
use Rattle.field_table.specs.Blocks.{is}
use Rattle.adv7194_signalling.specs.Cgms.{cgms_bits, cgms_of}
use Rattle.adv7194_signalling.proofs.NumberLaws.{Within, yes_is, rest-within}
use Rattle.adv7194_signalling.proofs.WordLaws.{bit-value, word_bytes}
use Rattle.adv7194_signalling.proofs.CgmsLaws.{check_part_lt, cgms-value, inside, Inside, is-inside, cgms_number, by_magnitudes, cgms_coded, cgms-outside}

-- the setting's parts of a word's number: C0 to C13, and bits 5, 6 and 4 of register 19
abbrev pub payload_of : ℕ → ℕ
payload_of word = word % 0x4000

abbrev pub odd_of : ℕ → ℕ
odd_of word = word / 0x200000 % 2

abbrev pub even_of : ℕ → ℕ
even_of word = word / 0x400000 % 2

abbrev pub chip_of : ℕ → ℕ
chip_of word = word / 0x100000 % 2

-- a word has a setting's parts, and its highest bit is clear
pub record Parts (payload odd even chip : ℤ) (word : ℕ) : Type 0 where
  pub payload_is : nat_abs payload ≡ payload_of word
  pub odd_is : nat_abs odd ≡ odd_of word
  pub even_is : nat_abs even ≡ even_of word
  pub chip-is : nat_abs chip ≡ chip_of word
  pub top_clear : word < 0x800000

-- the bit of a yes/no is its magnitude
yes_value : {z : ℤ} → Within 1 z → bit_value (is 1 z) ≡ nat_abs z
yes_value {z} w = ap bit_value (sym (yes_is z w)) ∙ bit-value (nat_abs z) (omega (arith, w.most))

-- the word of a setting has its parts
pub parts : {payload odd even chip : ℤ} → Inside payload odd even chip → Parts payload odd even chip (cgms_number payload odd even chip)
parts {payload} {odd} {even} {chip} i =
    let value = cgms-value (nat_abs payload) (is 1 odd) (is 1 even) (is 1 chip) (omega (arith, i.payload_in.most)) in
    let check = check_part_lt (nat_abs payload) in
    let o = yes_value i.odd_in_lem in
    let e = yes_value i.even_in in
    let k = yes_value i.chip_in in
    record {
      payload_is = omega (arith, i.payload_in.most);
      odd_is = omega (arith, i.payload_in.most, i.odd_in_lem.most, i.chip_in.most);
      even_is = omega (arith, i.payload_in.most, i.odd_in_lem.most, i.even_in.most, i.chip_in.most);
      chip-is = omega (arith, i.payload_in.most, i.chip_in.most);
      top_clear = omega (arith, i.payload_in.most, i.odd_in_lem.most, i.even_in.most, i.chip_in.most);
    }

-- a setting that bytes code is in its range, and they are its word's
pub record Coded (payload odd even chip : ℤ) (bytes : List ℕ) : Type 0 where
  pub in_range : Inside payload odd even chip
  pub bytes_are : word_bytes (cgms_number payload odd even chip) ≡ bytes

pub is_coded : (payload odd even chip : ℤ) (bytes : List ℕ) → cgms_of payload odd even chip ≡ accepted bytes → Coded payload odd even chip bytes
is_coded payload odd even chip bytes h = go (flag (inside payload odd even chip))
  where
    go : (inside payload odd even chip ≡ true) ⊎ (inside payload odd even chip ≡ false) → Coded payload odd even chip bytes
    go (inl t) = let c = cgms_coded payload odd even chip t in record { in_range = is-inside payload odd even chip t; bytes_are = cc }
    go (inr f) =
        let c = cgms-outside payload odd even chip f in
        let z : ◌≡◌ {A = ℕ} 0 1 = cc in
        absurd (omega arith)

-- the word of the setting that a word holds
abbrev pub coded_again : ℕ → ℕ
coded_again word = lsb_value (cgms_bits (payload_of word) (eqb (odd_of word) 1) (eqb (even_of word) 1) (eqb (chip_of word) 1))

-- it is in its range
again_inside : (word : ℕ) → inside (pos (payload_of word)) (pos (odd_of word)) (pos (even_of word)) (pos (chip_of word)) ≡ true
again_inside word =
    rw (rest-within word 16383, rest-within (word / 0x200000) 1, rest-within (word / 0x400000) 1, rest-within (word / 0x100000) 1)

-- a word that is coded again unchanged holds a setting
pub again_held : (word : ℕ) → coded_again word ≡ word
    → cgms_of (pos (payload_of word)) (pos (odd_of word)) (pos (even_of word)) (pos (chip_of word)) ≡ accepted (word_bytes word)
again_held word h =
    cgms_coded (pos (payload_of word)) (pos (odd_of word)) (pos (even_of word)) (pos (chip_of word)) (again_inside word)
    ∙ ap (λ (v : ℕ). accepted (word_bytes v)) h

-- and one that holds a setting is coded again unchanged
pub held_again : {payload odd even chip : ℤ} → Inside payload odd even chip → coded_again (cgms_number payload odd even chip) ≡ cgms_number payload odd even chip
held_again i =
    let p = parts i in
    rw (sym p.payload_is, sym p.odd_is, sym p.even_is, sym p.chip-is) (by_magnitudes i)
