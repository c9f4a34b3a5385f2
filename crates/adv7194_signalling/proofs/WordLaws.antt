-- The number of a word's bits, lowest first: of two parts, of its first bits, and of the rest; and its three bytes. Assumes nothing.
use mathlib.Core.Path.{◌≡◌, refl, sym, ap, ◌∙◌}
use mathlib.Core.Bool.{Bool, true, false}
use mathlib.Core.List.{List, [], ◌∷◌, ◌++◌}
use Prim.Native.Nat.{ℕ, zero, suc, ◌+◌, ◌*◌, ◌/◌, ◌%◌, ◌^◌, ◌<◌}
use native.Mathlib.Nat.{pow-succ', mul_assoc, mod-one, div-one, zero-div, mod-eq_of_lt}
use native.Mathlib.Numerals.{add-one}
use native.Mathlib.Omega.{arith}
use lib.Dec.{eqb}
use lib.ListN.{length, take, drop}
use lib.Pow.{pow_pos, mod-pow-add}
use Rattle.bits.proofs.DigitLaws.{half_shr}
use Rattle.bits.specs.Strings.{lsb_value, bit_value}
use Rattle.adv7194_signalling.specs.Word.{register_bytes}

-- a bit's number
bit-lt : (b : Bool) → bit_value b < 2
bit-lt true = omega arith
bit-lt false = omega arith

-- of two parts
pub value-append : (xs ys : List Bool) → lsb_value (xs ++ ys) ≡ lsb_value xs + 2 ^ length xs * lsb_value ys
unfolding lsb_value
value-append [] ys = omega arith
value-append (x ∷ xs) ys =
    let q : 2 ^ suc (length xs) * lsb_value ys ≡ 2 * (2 ^ length xs * lsb_value ys) =
    ap (λ (n : ℕ). n * lsb_value ys) (pow-succ' 2 (length xs)) ∙ mul_assoc 2 (2 ^ length xs) (lsb_value ys) in
    omega (arith, value-append xs ys)

-- of its first bits
pub value-take : (n : ℕ) (bs : List Bool) → lsb_value (take n bs) ≡ lsb_value bs % 2 ^ n
unfolding lsb_value
value-take zero bs = sym (mod-one (lsb_value bs))
value-take (suc n) [] = sym (mod-eq_of_lt (pow_pos (suc n)))
value-take (suc n) (b ∷ bs) =
    let v = bit_value b + 2 * lsb_value bs in
    let cut : v % 2 ^ suc n ≡ v / 2 % 2 ^ n * 2 + v % 2 = ap (λ (k : ℕ). v % 2 ^ k) (sym (add-one n)) ∙ mod-pow-add v n 1 in
    let half : v / 2 ≡ lsb_value bs = omega (arith, bit-lt b) in
    let low : v % 2 ≡ bit_value b = omega (arith, bit-lt b) in
    rw (cut, half, low, value-take n bs) (omega arith)

-- of the bits after them
pub value-drop : (n : ℕ) (bs : List Bool) → lsb_value (drop n bs) ≡ lsb_value bs / 2 ^ n
unfolding lsb_value
value-drop zero bs = sym (div-one (lsb_value bs))
value-drop (suc n) [] = sym (zero-div (2 ^ suc n))
value-drop (suc n) (b ∷ bs) =
    let v = bit_value b + 2 * lsb_value bs in
    let half : v / 2 ≡ lsb_value bs = omega (arith, bit-lt b) in
    value-drop n bs ∙ ap (λ (x : ℕ). x / 2 ^ n) (sym half) ∙ half_shr v n

-- the three bytes of a word's number, of 19, 1A and 1B
abbrev pub word_bytes : ℕ → List ℕ
word_bytes v = v / 2 ^ 16 ∷ v / 2 ^ 8 % 2 ^ 8 ∷ v % 2 ^ 8 ∷ []

-- the register bytes of a word, from its number
pub bytes_of_value : (bs : List Bool) → register_bytes bs ≡ word_bytes (lsb_value bs)
bytes_of_value bs = rw (value-drop 16 bs, value-take 8 (drop 8 bs), value-drop 8 bs, value-take 8 bs)

-- a bit from its number
pub bit-value : (d : ℕ) → d < 2 → bit_value (eqb d 1) ≡ d
bit-value zero h = refl
bit-value (suc zero) h = refl
bit-value (suc (suc d)) h = absurd (omega arith)

-- the word of three bytes
abbrev pub joined_of : ℕ → ℕ → ℕ → ℕ
joined_of r19 r1a r1b = r19 * 2 ^ 16 + r1a * 2 ^ 8 + r1b

-- its bytes are the three
pub bytes-joined : (r19 r1a r1b : ℕ) → r1a < 256 → r1b < 256 → word_bytes (joined_of r19 r1a r1b) ≡ r19 ∷ r1a ∷ r1b ∷ []
bytes-joined r19 r1a r1b ha hb =
    let high : joined_of r19 r1a r1b / 2 ^ 16 ≡ r19 = omega arith in
    let mid : joined_of r19 r1a r1b / 2 ^ 8 % 2 ^ 8 ≡ r1a = omega arith in
    let low : joined_of r19 r1a r1b % 2 ^ 8 ≡ r1b = omega arith in
    rw (high, mid, low)

-- and only it has these bytes
pub joined-only : (v r19 r1a r1b : ℕ) → word_bytes v ≡ r19 ∷ r1a ∷ r1b ∷ [] → v ≡ joined_of r19 r1a r1b
joined-only v r19 r1a r1b h =
    let high : v / 2 ^ 16 ≡ r19 = cc in
    let mid : v / 2 ^ 8 % 2 ^ 8 ≡ r1a = cc in
    let low : v % 2 ^ 8 ≡ r1b = cc in
    omega arith
