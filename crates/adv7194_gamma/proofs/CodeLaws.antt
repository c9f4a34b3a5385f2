-- The coding of a curve by its kind, and the bytes of an image that hold one. Assumes nothing.
use mathlib.Core.Path.{◌≡◌}
use mathlib.Core.Bool.{true, false}
use mathlib.Core.List.{List, [], ◌∷◌}
use Prim.Native.Nat.{ℕ, suc, ◌+◌}
use native.Mathlib.Omega.{arith}
use lib.IntN.{ℤ, pos}
use lib.ListN.{get_or, drop}
use Rattle.refusals.specs.Refusal.{refused}
use Rattle.field_table.specs.Blocks.{is, slice}
use Rattle.adv7194_gamma.specs.Curve.{curve_of, curve_codes}
use Rattle.adv7194_gamma.proofs.ByteLaws.{bytes_set}

-- a ratio
pub ratio_codes : (zs : List ℤ) → is 0 (get_or zs 0 (pos 0)) ≡ true → curve_codes zs ≡ curve_of (get_or zs 1 (pos 0)) (get_or zs 2 (pos 0))
unfolding curve_codes
ratio_codes zs ratio = rw ratio

-- bytes
pub byte-codes : (zs : List ℤ) → is 0 (get_or zs 0 (pos 0)) ≡ false → is 1 (get_or zs 0 (pos 0)) ≡ true → curve_codes zs ≡ bytes_set (drop 3 zs)
unfolding curve_codes
byte-codes zs ratio bytes = rw (ratio, bytes)

-- no kind
pub no_codes : (zs : List ℤ) → is 0 (get_or zs 0 (pos 0)) ≡ false → is 1 (get_or zs 0 (pos 0)) ≡ false → curve_codes zs ≡ refused 3
unfolding curve_codes
no_codes zs ratio bytes = rw (ratio, bytes)

-- seven bytes of an image
pub seven_from : (image : List ℕ) (r : ℕ)
    → (let at : ℕ → ℕ = λ k. get_or image k 0 in at r ∷ at (r + 1) ∷ at (r + 2) ∷ at (r + 3) ∷ at (r + 4) ∷ at (r + 5) ∷ at (r + 6) ∷ [] ≡ slice 0 image r 7)
unfolding slice
seven_from image r =
    let e1 : r + 1 ≡ suc r = omega arith in
    let e2 : r + 2 ≡ suc (suc r) = omega arith in
    let e3 : r + 3 ≡ suc (suc (suc r)) = omega arith in
    let e4 : r + 4 ≡ suc (suc (suc (suc r))) = omega arith in
    let e5 : r + 5 ≡ suc (suc (suc (suc (suc r)))) = omega arith in
    let e6 : r + 6 ≡ suc (suc (suc (suc (suc (suc r))))) = omega arith in
    rw (e1, e2, e3, e4, e5, e6)
