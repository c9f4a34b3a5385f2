-- The characters of right pairs, and the transactions and data of their list. Assumes nothing.
use mathlib.Core.Path.{◌≡◌, refl, sym, subst⁻¹}
use mathlib.Core.Bool.{Bool, true, false, not, ◌&&◌, ◌||◌}
use mathlib.Core.List.{List, [], ◌∷◌, map, append-nil, flat_map}
use Prim.Native.Nat.{ℕ, ◌+◌, ◌/◌, ◌≤◌, ◌<◌}
use native.Mathlib.Omega.{arith}
use lib.Dec.{T, ltb, eqb}
use lib.IntN.{ℤ, pos}
use lib.ListN.{length, get_or}
use borrow.Author.Tests.{eqb-true, eqb-false, lt-ltb, le-ltb}
use Rattle.bits.proofs.FlagLaws.{first, second, holds}
use Rattle.bus.specs.Cost.{data_count}
use Rattle.packing.specs.Packing.{transaction_bits}
use Rattle.packing.specs.Written.{list_bits}
use Rattle.adv7194_captions.specs.Characters.{is_character, caption_byte}
use Rattle.adv7194_captions.specs.Pairs.{pair_right, pairs_right, pair_at, caption_list}
use Rattle.adv7194_captions.proofs.PairLaws.{too_many, Right, ordinary-alone, extended-alone, both_given, right}

-- ---- one pair

-- a right pair that is given: two characters, and the bytes that they leave as
pub record Given (zs : List ℤ) : Type 0 where
  pub two : length zs ≡ 2
  pub front : is_character (get_or zs 0 (pos 0)) ≡ true
  pub back : is_character (get_or zs 1 (pos 0)) ≡ true
  pub bytes : map caption_byte zs ≡ caption_byte (get_or zs 0 (pos 0)) ∷ caption_byte (get_or zs 1 (pos 0)) ∷ []

pub given : (zs : List ℤ) → pair_right zs ≡ true → 0 < length zs → Given zs
given [] e h = absurd (omega arith)
given (a ∷ []) e h = absurd (subst⁻¹ T e tt)
given (a ∷ b ∷ []) e h =
    let p = is_character a in
    let q = is_character b in
    let t = subst⁻¹ T e tt in
    record { two = refl; front = holds p (first p q t); back = holds q (second p q t); bytes = refl }
given (a ∷ b ∷ c ∷ zs) e h = too_many a b c zs e

-- the bits of a pair that is not given
pub none-bits : (r : ℕ) (zs : List ℤ) → length zs ≡ 0 → list_bits (pair_at r zs) ≡ []
unfolding pair_at flat_map
none-bits r [] h = refl
none-bits r (z ∷ zs) h = absurd (omega arith)

-- and of one that is
pub pair-bits : (r : ℕ) (zs : List ℤ) → 0 < length zs → list_bits (pair_at r zs) ≡ transaction_bits (record { subaddress = r; bytes = map caption_byte zs })
unfolding pair_at flat_map
pair-bits r [] h = absurd (omega arith)
pair-bits r (z ∷ zs) h = append-nil (transaction_bits (record { subaddress = r; bytes = map caption_byte (z ∷ zs) }))

-- ---- both pairs

-- one is given
pub some-given : (m n : ℕ) → (not (eqb m 0) || not (eqb n 0)) ≡ ltb 0 (m + n)
some-given m n = by (eqb m 0) refl (eqb n 0) refl
  where
    by : (a : Bool) → eqb m 0 ≡ a → (b : Bool) → eqb n 0 ≡ b → (not a || not b) ≡ ltb 0 (m + n)
    by false p b q = let z = eqb-false m 0 p in sym (lt-ltb 0 (m + n) (omega arith))
    by true p false q = let z = eqb-false n 0 q in sym (lt-ltb 0 (m + n) (omega arith))
    by true p true q = sym (le-ltb 0 (m + n) (omega (arith, eqb-true m 0 p, eqb-true n 0 q)))

-- how many transactions and data the list of right pairs has
pub record Counted (extended ordinary : List ℤ) : Type 0 where
  pub few : length extended + length ordinary ≤ 4
  pub transactions : length (caption_list extended ordinary) ≡ (length extended + length ordinary) / 2
  pub bytes : data_count (caption_list extended ordinary) ≡ length extended + length ordinary

counts : {extended ordinary : List ℤ} → Right extended ordinary → Counted extended ordinary
unfolding caption_list pair_at data_count
counts (ordinary-alone p q) = record { few = omega arith; transactions = refl; bytes = refl }
counts (extended-alone p q) = record { few = omega arith; transactions = refl; bytes = refl }
counts (both_given p q p' q') = record { few = omega arith; transactions = refl; bytes = refl }

module _ (extended ordinary : List ℤ) (h : pairs_right extended ordinary ≡ true) where
  pub counted : Counted extended ordinary
  counted = counts (right extended ordinary h)

  -- each pair is right
  pub both_right : (pair_right extended ≡ true) × (pair_right ordinary ≡ true)
  both_right =
      let p = pair_right extended in
      let q = pair_right ordinary in
      let s = ltb 0 (length extended + length ordinary) in
      let t = subst⁻¹ T h tt in
      (holds p (first p (q && s) t), holds q (first q s (second p (q && s) t)))
