-- The registers of the subcarrier word that a map has besides one, as a map. Assumes nothing.
use mathlib.Core.Path.{◌≡◌, refl, sym, ap, ap₂, ◌∙◌}
use mathlib.Core.Bool.{Bool, true, false, not, ◌&&◌, and-true, and-false}
use Prim.Native.Nat.{ℕ, ◌*◌, ◌%◌, ◌^◌, ◌<◌}
use native.Mathlib.Nat.{mod-lt}
use native.Mathlib.Omega.{arith}
use lib.Bits.{bit_and, and_le_l, and_le_r}
use lib.Dec.{eqb}
use borrow.Author.Tests.{eqb-true, eqb-false, eq-eqb, ne_eqb}
use Rattle.bits.specs.Maps.{has, complement}
use Rattle.cutting.proofs.SpanLaws.{one_has}
use Rattle.adv7194_bus.specs.Kind.{register_count}
use Rattle.adv7194_table.specs.Registers.{some_below}
use Rattle.adv7194_table.proofs.RegisterLaws.{same-below, some_of_map}
use Rattle.adv7194_least.specs.Plan.{in_word}
use Rattle.bits.proofs.SetLaws.{has-without}
use Rattle.adv7194_planning.proofs.RegisterMaps.{word_map, in_both}

-- a test of two numbers is that of the two exchanged
eqb_turned : (m n : ℕ) → eqb m n ≡ eqb n m
eqb_turned m n = split (eqb n m) refl
  where
    split : (b : Bool) → eqb n m ≡ b → eqb m n ≡ b
    split true e = eq-eqb m n (sym (eqb-true n m e))
    split false e = ne_eqb m n (λ q. eqb-false n m e (sym q))

module _ (map r : ℕ) (h : r < register_count) where
  -- the map of one register
  abbrev own : ℕ
  own = (1 * 2 ^ r) % 2 ^ 64

  own_is : (q : ℕ) → has own q ≡ eqb q r
  own_is q = one_has r q (omega arith) ∙ eqb_turned r q

  -- the word's registers in the map besides that one
  abbrev others : ℕ
  others = bit_and (bit_and map word_map) (complement own)

  others-small : others < 2 ^ register_count
  others-small = omega (arith, and_le_r map word_map, and_le_l (bit_and map word_map) (complement own))

  other_is : (q : ℕ) → has others q ≡ (in_word q && (not (eqb q r) && has map q))
  other_is q =
      has-without (bit_and map word_map) own q (omega (arith, and_le_r map word_map)) (mod-lt (1 * 2 ^ r) (omega arith))
      ∙ ap₂ (λ (x y : Bool). not x && y) (own_is q) (in_both map q) ∙ turned (not (eqb q r)) (has map q) (in_word q)
    where
      turned : (x y z : Bool) → (x && (y && z)) ≡ (z && (x && y))
      turned x y true = ap (λ (b : Bool). x && b) (and-true y)
      turned true y false = and-false y
      turned false y false = refl

  -- there is one exactly where their map isn't 0
  pub some_other : not (eqb others 0) ≡ some_below (λ q. in_word q && (not (eqb q r) && has map q)) register_count
  some_other =
      sym (some_of_map register_count others others-small)
      ∙ same-below (has others) (λ q. in_word q && (not (eqb q r) && has map q)) register_count (λ q k. other_is q)
