-- The codings of signalling and of the curves refuse by rows 3 and 4 only. Assumes nothing.
use mathlib.Core.Path.{◌≡◌, refl, sym, subst}
use mathlib.Core.Bool.{◌||◌}
use mathlib.Core.Logic.{◌⊎◌, inl, inr}
use mathlib.Core.List.{List}
use Prim.Native.Nat.{ℕ}
use lib.Dec.{T, eqb}
use lib.IntN.{ℤ}
use Rattle.refusals.specs.Refusal.{Judged, accepted, refused}
use Rattle.adv7194_signalling.specs.Signalling.{signalling_codes}
use Rattle.adv7194_signalling.proofs.RefusalLaws.{codes-refused}
use Rattle.adv7194_gamma.specs.Curve.{curve_codes}
use Rattle.adv7194_gamma.proofs.SettingLaws.{curve-refused}
use Rattle.adv7194_wanted.proofs.RowLaws.{Sound}

-- a coding whose refusals are 3 or 4
sound_of : {A : Type 0} (j : Judged A) → ((n : ℕ) → j ≡ refused n → (n ≡ 3) ⊎ (n ≡ 4)) → Sound j
sound_of (accepted a) h = record { sound = tt }
sound_of {A} (refused n) h = by (h n refl)
  where
    test : {k : ℕ} → n ≡ k → T (eqb k 3 || eqb k 4) → T (eqb n 3 || eqb n 4)
    test e t = subst (λ (m : ℕ). T (eqb m 3 || eqb m 4)) (sym e) t

    by : (n ≡ 3) ⊎ (n ≡ 4) → Sound {A = A} (refused n)
    by (inl e) = record { sound = test e tt }
    by (inr e) = record { sound = test e tt }

pub signalling-sound : (zs : List ℤ) → Sound (signalling_codes zs)
signalling-sound zs = sound_of (signalling_codes zs) (λ n e. codes-refused zs n e)

pub curve-sound : (zs : List ℤ) → Sound (curve_codes zs)
curve-sound zs = sound_of (curve_codes zs) (λ n e. inl (curve-refused zs n e))
