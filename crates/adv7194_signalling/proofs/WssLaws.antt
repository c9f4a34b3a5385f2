-- The number of a WSS word, and the coding of a number whose four lowest bits hold an odd number of ones. Assumes nothing.
use mathlib.Core.Path.{◌≡◌, ap, ◌∙◌}
use mathlib.Core.Bool.{true, false}
use mathlib.Core.List.{List, [], ◌∷◌, ◌++◌}
use mathlib.Core.Logic.{◌⊎◌, inl, inr}
use Prim.Native.Nat.{ℕ, ◌+◌, ◌*◌, ◌^◌, ◌<◌}
use native.Mathlib.Omega.{arith}
use lib.IntN.{ℤ, nat_abs}
use lib.ListN.{replicate}
use Rattle.bits.specs.Strings.{lsb_first, lsb_value}
use Rattle.bits.specs.Parity.{odd_in}
use Rattle.bits.proofs.StringLaws.{lsb_length, lsb_value_lem}
use Rattle.rounding.proofs.First.{flag}
use Rattle.refusals.specs.Refusal.{accepted, refused}
use Rattle.field_table.specs.Blocks.{between}
use Rattle.adv7194_signalling.specs.Wss.{wss_bits, wss_of}
use Rattle.adv7194_signalling.proofs.NumberLaws.{Within, is_within}
use Rattle.adv7194_signalling.proofs.WordLaws.{value-append, word_bytes, bytes_of_value}

-- the number of a WSS word
pub wss_value : (number : ℕ) → number < 2 ^ 14 → lsb_value (wss_bits number) ≡ number + 0x800000
unfolding wss_bits lsb_value
wss_value number h =
    let upper = replicate 9 false ++ (true ∷ []) in
    let whole : lsb_value (lsb_first 14 number ++ upper) ≡ lsb_value (lsb_first 14 number) + 2 ^ 14 * lsb_value upper =
    rw (lsb_length 14 number) at (value-append (lsb_first 14 number) upper) in
    omega (arith, whole, lsb_value_lem 14 number h)

-- the coding of a number in its range whose four lowest bits hold an odd number of ones
pub wss_coded : (z : ℤ) → between 0 16383 z ≡ true → odd_in 4 (nat_abs z) ≡ true → wss_of z ≡ accepted (word_bytes (nat_abs z + 0x800000))
unfolding wss_of
wss_coded z inside odd =
    rw (inside, odd)
    (ap accepted (bytes_of_value (wss_bits (nat_abs z)) ∙ ap word_bytes (wss_value (nat_abs z) (omega (arith, (is_within 16383 z inside).most)))))

-- a number that bytes code is in its range, has the odd count, and its word is theirs
pub record Coded (z : ℤ) (bytes : List ℕ) : Type 0 where
  pub in_range : Within 16383 z
  pub odd : odd_in 4 (nat_abs z) ≡ true
  pub bytes_are : word_bytes (nat_abs z + 0x800000) ≡ bytes

pub is_coded : (z : ℤ) (bytes : List ℕ) → wss_of z ≡ accepted bytes → Coded z bytes
unfolding wss_of
is_coded z bytes h = go (flag (between 0 16383 z)) (flag (odd_in 4 (nat_abs z)))
  where
    go : (between 0 16383 z ≡ true) ⊎ (between 0 16383 z ≡ false)
        → (odd_in 4 (nat_abs z) ≡ true) ⊎ (odd_in 4 (nat_abs z) ≡ false) → Coded z bytes
    go (inl t) (inl o) = let c = wss_coded z t o in record { in_range = is_within 16383 z t; odd = o; bytes_are = cc }
    go (inl t) (inr e) =
        let c : wss_of z ≡ refused 4 = rw (t, e) in
        let z : ◌≡◌ {A = ℕ} 0 1 = cc in
        absurd (omega arith)
    go (inr f) o =
        let c : wss_of z ≡ refused 3 = rw f in
        let z : ◌≡◌ {A = ℕ} 0 1 = cc in
        absurd (omega arith)
