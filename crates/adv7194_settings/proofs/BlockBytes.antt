-- What the settings of a block code is bytes, and no more of them than the block has registers. Assumes nothing.
use mathlib.Core.Path.{◌≡◌, refl, sym, subst}
use mathlib.Core.Logic.{◌⊎◌, inl, inr}
use mathlib.Core.List.{List, [], ◌∷◌}
use Prim.Native.Nat.{ℕ, zero, suc, ◌≤◌, ◌<◌}
use native.Mathlib.Omega.{arith}
use lib.IntN.{ℤ}
use lib.ListN.{length}
use Rattle.refusals.specs.Refusal.{Judged, accepted, refused, value_or}
use Rattle.field_table.proofs.FitLaws.{Bytes}
use Rattle.adv7194_subcarrier.specs.Subcarrier.{word_codes}
use Rattle.adv7194_subcarrier.proofs.ByteLaws.{codes-small, codes_four}
use Rattle.adv7194_gamma.specs.Curve.{curve_codes}
use Rattle.adv7194_gamma.proofs.SettingLaws.{curve_seven}
use Rattle.adv7194_signalling.specs.Signalling.{signalling_codes}
use Rattle.adv7194_signalling.proofs.SettingLaws.{Three, coded_bytes}

-- bytes that fill no more than n registers
pub record Filling (n : ℕ) (cs : List ℕ) : Type 0 where
  pub size : length cs ≤ n
  pub bytes : Bytes cs

-- none
none_fill : (n : ℕ) → Filling n []
none_fill n = record { size = omega arith; bytes = λ i. omega arith }

-- a curve, by ten numbers
pub curve_fills : (zs : List ℤ) → length zs ≡ 10 → Filling 7 (value_or [] (curve_codes zs))
curve_fills zs size = by (curve_codes zs) refl
  where
    by : (j : Judged (List ℕ)) → curve_codes zs ≡ j → Filling 7 (value_or [] j)
    by (accepted cs) e = let s = curve_seven zs cs size e in record { size = omega (arith, s.size); bytes = s.small }
    by (refused n) e = none_fill 7

-- signalling of any kind
pub signalling_fills : (zs : List ℤ) → Filling 3 (value_or [] (signalling_codes zs))
signalling_fills zs = by (signalling_codes zs) refl
  where
    three : (a b c : ℕ) → a < 256 → b < 256 → c < 256 → Bytes (a ∷ b ∷ c ∷ [])
    three a b c p q r zero = p
    three a b c p q r (suc zero) = q
    three a b c p q r (suc (suc zero)) = r
    three a b c p q r (suc (suc (suc i))) = omega arith

    shape : (cs : List ℕ) → (cs ≡ []) ⊎ Three cs → Filling 3 cs
    shape cs (inl e) = subst (Filling 3) (sym e) (none_fill 3)
    shape cs (inr t) =
        subst (Filling 3) (sym t.same)
        (record { size = omega arith; bytes = three t.r19 t.r1a t.r1b t.r19_byte t.r1a_byte t.r1b_byte })

    by : (j : Judged (List ℕ)) → signalling_codes zs ≡ j → Filling 3 (value_or [] j)
    by (accepted cs) e = shape cs (coded_bytes zs cs e)
    by (refused n) e = none_fill 3

-- the subcarrier word
pub word_fills : (standard square : ℤ) → Filling 4 (word_codes standard square)
word_fills standard square = record { size = omega (arith, codes_four standard square); bytes = codes-small standard square }
