-- Field 28's four bytes: the word has 32 bits, so each fits its register; and registers hold the word where joined they are it. Assumes nothing.
use mathlib.Core.Path.{◌≡◌, refl, sym, ◌∙◌, subst}
use mathlib.Core.Bool.{Bool, true, false}
use mathlib.Core.List.{[], ◌∷◌}
use mathlib.Core.Logic.{◌⊎◌, inl, inr}
use Prim.Native.Nat.{ℕ, zero, suc, ◌+◌, ◌*◌, ◌/◌, ◌%◌, ◌^◌, ◌<◌}
use native.Mathlib.Omega.{arith}
use lib.Dec.{T, eqb}
use lib.IntN.{ℤ}
use lib.ListN.{length, get_or}
use lib.Pow.{shr-shr}
use borrow.Author.Tests.{eq-eqb, ne_eqb}
use Rattle.bits.specs.Bytes.{same_bytes}
use Rattle.bits.proofs.SameLaws.{same_bytes_lem, same_self}
use Rattle.rounding.proofs.First.{flag}
use Rattle.rounding.proofs.Rounding.{nearest-is}
use Rattle.field_table.specs.Blocks.{is}
use Rattle.adv7194_subcarrier.specs.Subcarrier.{word_of, word_bytes, word_codes}
use Rattle.adv7194_subcarrier.proofs.Words.{numerator, denominator, sized, in_word_lem}

-- the word has 32 bits
pub word_lt : (pal square : Bool) → word_of pal square < 2 ^ 32
unfolding word_of
word_lt pal square = in_word_lem (numerator pal) (denominator pal square) _ (sized pal square) (nearest-is _ _ (sized pal square).positive)

-- so each of its bytes fits a register
pub codes-small : (standard square : ℤ) (i : ℕ) → get_or (word_codes standard square) i 0 < 256
unfolding word_codes
codes-small standard square i = go i
  where
    w : ℕ
    w = word_of (is 1 standard) (is 1 square)

    high : w / 16777216 < 256
    high = omega (arith, word_lt (is 1 standard) (is 1 square))

    go : (i : ℕ) → get_or (word_bytes w) i 0 < 256
    go zero = omega arith
    go (suc zero) = omega arith
    go (suc (suc zero)) = omega arith
    go (suc (suc (suc zero))) = high
    go (suc (suc (suc (suc i)))) = omega arith

-- four bytes joined, lowest first
abbrev pub joined_of : ℕ → ℕ → ℕ → ℕ → ℕ
joined_of b0 b1 b2 b3 = b0 + b1 * 256 + b2 * 65536 + b3 * 16777216

-- they are a word's where joined they are the word
pub joined_same : (w b0 b1 b2 b3 : ℕ) → b0 < 256 → b1 < 256 → b2 < 256 → eqb (joined_of b0 b1 b2 b3) w ≡ same_bytes (b0 ∷ b1 ∷ b2 ∷ b3 ∷ []) (word_bytes w)
joined_same w b0 b1 b2 b3 h0 h1 h2 = go (flag (same_bytes (b0 ∷ b1 ∷ b2 ∷ b3 ∷ []) (word_bytes w)))
  where
    go : (same_bytes (b0 ∷ b1 ∷ b2 ∷ b3 ∷ []) (word_bytes w) ≡ true) ⊎ (same_bytes (b0 ∷ b1 ∷ b2 ∷ b3 ∷ []) (word_bytes w) ≡ false)
        → eqb (joined_of b0 b1 b2 b3) w ≡ same_bytes (b0 ∷ b1 ∷ b2 ∷ b3 ∷ []) (word_bytes w)
    go (inl t) =
        let e = same_bytes_lem (b0 ∷ b1 ∷ b2 ∷ b3 ∷ []) (word_bytes w) (subst T (sym t) tt) in
        let e0 : w % 256 ≡ b0 = cc in
        let e1 : w / 256 % 256 ≡ b1 = cc in
        let e2 : w / 65536 % 256 ≡ b2 = cc in
        let e3 : w / 16777216 ≡ b3 = cc in
        let q1 : w / 256 / 256 ≡ w / 65536 = shr-shr w 8 8 in
        let q2 : w / 65536 / 256 ≡ w / 16777216 = shr-shr w 16 8 in
        eq-eqb (joined_of b0 b1 b2 b3) w (omega (arith, q1, q2)) ∙ sym t
    go (inr f) =
        ne_eqb (joined_of b0 b1 b2 b3) w (λ e.
        let q1 : w / 256 ≡ b1 + b2 * 256 + b3 * 65536 = omega arith in
        let q2 : w / 65536 ≡ b2 + b3 * 256 = omega arith in
        let e0 : w % 256 ≡ b0 = omega arith in
        let e1 : w / 256 % 256 ≡ b1 = rw q1 (omega arith) in
        let e2 : w / 65536 % 256 ≡ b2 = rw q2 (omega arith) in
        let e3 : w / 16777216 ≡ b3 = omega arith in
        let s : same_bytes (b0 ∷ b1 ∷ b2 ∷ b3 ∷ []) (word_bytes w) ≡ true = rw (e0, e1, e2, e3) (same_self (b0 ∷ b1 ∷ b2 ∷ b3 ∷ [])) in
        let z : ◌≡◌ {A = ℕ} 0 1 = cc in
        omega arith)
        ∙ sym f

-- there are four of them
pub codes_four : (standard square : ℤ) → length (word_codes standard square) ≡ 4
unfolding word_codes
codes_four standard square = refl
