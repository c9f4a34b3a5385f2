-- What p and q of 1 to 3 have; and from the bytes of their ratio, or from a number outside, to both statements of the answer. Assumes nothing.
use mathlib.Core.Path.{◌≡◌, refl, sym, subst}
use mathlib.Core.Bool.{true, false, ◌&&◌}
use mathlib.Core.List.{List, [], ◌∷◌, map}
use Prim.Native.Nat.{ℕ, zero, suc, ◌+◌, ◌-◌, ◌≤◌, ◌<◌}
use native.Mathlib.Nat.{le_of_suc-le-suc, not-suc-le-zero}
use native.Mathlib.Omega.{arith}
use lib.Dec.{T, leb, leb→le}
use lib.IntN.{ℤ, pos, negsuc, nat_abs}
use lib.ListN.{length, get_or}
use lib.Signed.{non_neg}
use Rattle.refusals.specs.Refusal.{accepted, refused}
use Rattle.rounding.proofs.Range.{both_l, both_r, below_at}
use Rattle.field_table.specs.Blocks.{between}
use Rattle.adv7194_gamma.specs.Power.{nearest_power, NearestPower}
use Rattle.adv7194_gamma.specs.Curve.{places, bytes_of, curve_of, NearestByte, NearestBytes}
use Rattle.adv7194_gamma.proofs.Nearest.{byte_at, nearest_power_lem}

-- what a number of 1 to 3 has: no sign, and its magnitude is 1 to 3
pub record Inside (z : ℤ) : Type 0 where
  pub sign : T (non_neg z)
  pub low : 0 < nat_abs z
  pub high : nat_abs z ≤ 3

inside : (z : ℤ) → T (between 1 3 z) → Inside z
inside (pos n) t = record { sign = tt; low = leb→le 1 n (both_l (leb 1 n) _ t); high = leb→le n 3 (both_r (leb 1 n) _ t) }
inside (negsuc n) t = absurd t

-- p and q that both are
module _ (p q : ℤ) (e : between 1 3 p && between 1 3 q ≡ true) where
  pub p_inside : Inside p
  p_inside = inside p (both_l (between 1 3 p) _ (subst T (sym e) tt))

  pub q_inside : Inside q
  q_inside = inside q (both_r (between 1 3 p) _ (subst T (sym e) tt))

-- an element of a list's images
at_map : (f : ℕ → ℕ) (l : List ℕ) (k : ℕ) → k < length l → get_or (map f l) k 0 ≡ f (get_or l k 0)
at_map f [] k h = absurd (not-suc-le-zero h)
at_map f (x ∷ xs) zero h = refl
at_map f (x ∷ xs) (suc k) h = at_map f xs k (le_of_suc-le-suc h)

-- the byte of the search is nearest
nearest-byte : (p q n : ℕ) → n ≤ 240 → 0 < q → NearestByte p q n (byte_at p q n)
nearest-byte p q n h hq =
    let r = nearest_power (n - 16) p q in
    let same : r ≡ 16 + r - 16 = omega arith in
    record { base = omega arith; nearest = subst (λ (k : ℕ). NearestPower (n - 16) p q k) same (nearest_power_lem (n - 16) p q (omega arith) hq) }

-- the answer where p and q are 1 to 3, from the ratio's bytes
pub accepting : (p q : ℤ) (bytes : List ℕ) → between 1 3 p && between 1 3 q ≡ true → bytes ≡ bytes_of (nat_abs p) (nat_abs q)
    → (accepted bytes ≡ curve_of p q) × NearestBytes p q (accepted bytes)
unfolding curve_of bytes_of
accepting p q bytes both e = rw e (rw both, nearest)
  where
    nearest : (k : ℕ) → k < length places → NearestByte (nat_abs p) (nat_abs q) (get_or places k 0) (get_or (map (byte_at (nat_abs p) (nat_abs q)) places) k 0)
    nearest k h =
        rw (at_map (byte_at (nat_abs p) (nat_abs q)) places k h)
        (nearest-byte (nat_abs p) (nat_abs q) (get_or places k 0) (leb→le _ 240 (below_at (λ k. leb (get_or places k 0) 240) 7 tt k h)) (q_inside p q both).low)

-- the answer where one of them is not
pub refusing : (p q : ℤ) → between 1 3 p && between 1 3 q ≡ false → refused 3 ≡ curve_of p q
unfolding curve_of
refusing p q e = rw e
