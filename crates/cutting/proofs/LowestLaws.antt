-- The lowest register of a map is the one that trailing zeros find. Assumes nothing.
use mathlib.Core.Path.{◌≡◌, refl, ap, ◌∙◌}
use mathlib.Core.Bool.{true, false}
use Prim.Native.Nat.{ℕ, zero, suc, ◌^◌, ◌<◌}
use native.Mathlib.Omega.{arith}
use lib.Count.{count_trailing_zeros}
use lib.Dec.{eqb}
use Rattle.bits.specs.Maps.{map_width, has}
use Rattle.bits.proofs.MapLaws.{least}
use Rattle.bits.proofs.SetLaws.{has_in, has-past}

-- the lowest register is one of 64, is in the map, and none below it is
pub record First (m gap : ℕ) : Type 0 where
  pub near : gap < 64
  pub first : has m gap ≡ true
  pub clear : (x : ℕ) → x < gap → has m x ≡ false

-- where there is one
pub first-is : (m gap : ℕ) → 0 < m → m < 2 ^ 64 → gap ≡ count_trailing_zeros map_width m → First m gap
first-is m gap p h e =
    let l = least 64 m p h in
    let f : has m gap ≡ true = ap (has m) e ∙ ap (λ (x : ℕ). eqb x 1) l.isset in
    record {
      near = has_in 64 m gap h f;
      first = f;
      clear = λ x k. ap (λ (y : ℕ). eqb y 1) (l.below x (omega arith));
    }

-- none is below it, and it is in the map where there is one
pub record Lowest (m gap : ℕ) : Type 0 where
  pub clear : (x : ℕ) → x < gap → has m x ≡ false
  pub first : gap < 64 → has m gap ≡ true

-- a map with no register has 64 zeros
none-set : count_trailing_zeros map_width 0 ≡ 64
unfolding count_trailing_zeros
none-set = refl

-- of any map
pub lowest_is : (m gap : ℕ) → m < 2 ^ 64 → gap ≡ count_trailing_zeros map_width m → Lowest m gap
lowest_is zero gap h e = record {
  clear = λ x k. has-past 0 0 x (omega arith) (omega arith);
  first = λ k. absurd (omega (arith, none-set));
}
lowest_is (suc m) gap h e = let l = first-is (suc m) gap (omega arith) h e in record { clear = l.clear; first = λ k. l.first }
