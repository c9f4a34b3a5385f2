-- A curve's seven bytes: those that are set are accepted where each number is a byte, and refused else; those that are read mean themselves.
-- Assumes nothing.
use mathlib.Core.Path.{◌≡◌, sym, subst}
use mathlib.Core.Bool.{true, false, cond}
use mathlib.Core.List.{List, [], ◌∷◌, map}
use Prim.Native.Nat.{ℕ, zero, suc, ◌+◌, ◌≤◌, ◌<◌}
use native.Mathlib.Omega.{arith}
use lib.Dec.{T, leb, leb→le, lit<}
use lib.IntN.{ℤ, pos, negsuc, nat_abs}
use lib.ListN.{length, get_or, drop}
use lib.Seq.{drop-cons, drop-length, get_or-drop}
use lib.Signed.{non_neg}
use mir.Syntax.{w32}
use mir.ValLaws.{to_z-of_z}
use Rattle.refusals.specs.Refusal.{Judged, accepted, refused}
use Rattle.rounding.proofs.Range.{both_l, both_r, back}
use Rattle.field_table.specs.Blocks.{between}
use Rattle.adv7194_gamma.specs.Curve.{all_bytes}

-- ---- one number

-- a number that is a byte
pub record Byte (z : ℤ) : Type 0 where
  pub sign : T (non_neg z)
  pub most : nat_abs z ≤ 255

is_byte : (z : ℤ) → T (between 0 255 z) → Byte z
is_byte (pos n) t = record { sign = tt; most = leb→le n 255 (both_r (leb 0 n) _ t) }
is_byte (negsuc n) t = absurd t

-- the machine keeps it
pub byte-back : (z : ℤ) → Byte z → back w32 z ≡ z
byte-back (pos n) b = to_z-of_z w32 (pos n) (record { sfits = omega (arith, b.most) })
byte-back (negsuc n) b = absurd b.sign

-- ---- the numbers of a curve

-- each number of a list that is all bytes
pub byte_in : (zs : List ℤ) → T (all_bytes zs) → (i : ℕ) → Byte (get_or zs i (pos 0))
byte_in [] t i = record { sign = tt; most = omega arith }
byte_in (z ∷ zs) t zero = is_byte z (both_l (between 0 255 z) _ t)
byte_in (z ∷ zs) t (suc i) = byte_in zs (both_r (between 0 255 z) _ t) i

-- each after the third
pub byte_at : (zs : List ℤ) → all_bytes (drop 3 zs) ≡ true → (i : ℕ) → Byte (get_or zs (3 + i) (pos 0))
byte_at zs e i = subst Byte (get_or-drop 3 zs i (pos 0)) (byte_in (drop 3 zs) (subst T (sym e) tt) i)

-- the seven of them
pub seven : (zs : List ℤ) → length zs ≡ 10
    → drop 3 zs ≡ get_or zs 3 (pos 0) ∷ get_or zs 4 (pos 0) ∷ get_or zs 5 (pos 0) ∷ get_or zs 6 (pos 0) ∷ get_or zs 7 (pos 0) ∷ get_or zs 8 (pos 0) ∷ get_or zs 9 (pos 0) ∷ []
seven zs h =
    let on : (i : ℕ) → i < 10 → drop i zs ≡ get_or zs i (pos 0) ∷ drop (suc i) zs = λ i small. drop-cons zs i (pos 0) (omega arith) in
    let end : drop 10 zs ≡ [] = rw h at (drop-length zs) in
    rw
    (on 3 (lit< tt), on 4 (lit< tt), on 5 (lit< tt), on 6 (lit< tt), on 7 (lit< tt), on 8 (lit< tt), on 9 (lit< tt), end)

-- ---- as they are set

abbrev pub bytes_set : List ℤ → Judged (List ℕ)
bytes_set zs = cond (all_bytes zs) (accepted (map nat_abs zs)) (refused 3)

-- all bytes are accepted
pub bytes-set : (zs : List ℤ) → all_bytes zs ≡ true → bytes_set zs ≡ accepted (map nat_abs zs)
bytes-set zs e = rw e

-- others are refused
pub bytes-refused : (zs : List ℤ) → all_bytes zs ≡ false → bytes_set zs ≡ refused 3
bytes-refused zs e = rw e
