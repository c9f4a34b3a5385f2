-- The parts of the CGMS data, as the machine computes with them. Assumes nothing.
use mathlib.Core.Path.{◌≡◌, refl, ap, ◌∙◌, subst}
use mathlib.Core.Bool.{true, false, ◌&&◌}
use mathlib.Core.List.{List}
use Prim.Native.Nat.{ℕ, ◌+◌, ◌*◌, ◌/◌, ◌%◌, ◌^◌, ◌≤◌, ◌<◌}
use native.Mathlib.Nat.{mod-lt}
use native.Mathlib.Omega.{arith}
use lib.Dec.{T, ltb→lt, lt→ltb}
use lib.IntN.{ℤ, pos, negsuc, nat_abs}
use lib.Pow.{pow_pos, pow_mono}
use lib.Signed.{lt_z, le_z, non_neg}
use mir.Syntax.{w32}
use mir.Val.{to_z, Fits, SFits}
use mir.ValLaws.{to_z-of_z}
use borrow.Author.Tests.{ltb-true, leb-true, leb-false, lt-ltb, le-ltb}
use Rattle.bits.proofs.DigitLaws.{one_shl}
use Rattle.bits.proofs.FlagLaws.{first, second}
use Rattle.rounding.proofs.Range.{back}
use Rattle.field_table.proofs.Signed.{as_signed}
use Rattle.adv7195_settings.specs.Numbers.{cgms_bits, part_of, cgms_part, in_bits, joins}

-- ---- from the data

-- a negative number has no part
pub part_negative : (k w : ℕ) (z : ℤ) → lt_z z (pos 0) ≡ true → negsuc 0 ≡ part_of k w z
part_negative k w (pos n) e = absurd (omega (arith, ltb-true n 0 e))
part_negative k w (negsuc n) e = refl

-- nor has one that is none of 20 bits
pub part_beyond : (k w : ℕ) (z : ℤ) → le_z (pos (2 ^ cgms_bits)) z ≡ true → negsuc 0 ≡ part_of k w z
part_beyond k w (pos n) e = rw (le-ltb n (2 ^ cgms_bits) (leb-true (2 ^ cgms_bits) n e))
part_beyond k w (negsuc n) e = refl

-- the part of any other
module _ (k w : ℕ) (small : w < 16) where
  divisor : 1 * 2 ^ w % 2 ^ 32 ≡ 2 ^ w
  divisor = one_shl w 32 (omega arith)

  pub divides : 0 < 1 * 2 ^ w % 2 ^ 32
  divides = rw divisor (pow_pos w)

  part_lt : (n : ℕ) → n / 2 ^ k % 2 ^ w < 2 ^ 31
  part_lt n = let a = mod-lt (n / 2 ^ k) (pow_pos w) in let b : 2 ^ w ≤ 2 ^ 16 = pow_mono {j = 16} (omega arith) in omega arith

  pub part_fits : (n : ℕ) → SFits w32 (pos (n / 2 ^ k % (1 * 2 ^ w % 2 ^ 32)))
  part_fits n = rw divisor (record { sfits = part_lt n })

  pub part_is : (z : ℤ) → lt_z z (pos 0) ≡ false → le_z (pos (2 ^ cgms_bits)) z ≡ false → to_z w32 (nat_abs z / 2 ^ k % (1 * 2 ^ w % 2 ^ 32)) ≡ part_of k w z
  part_is (pos n) p q = rw (divisor, lt-ltb n (2 ^ cgms_bits) (leb-false (2 ^ cgms_bits) n q)) (as_signed (n / 2 ^ k % 2 ^ w) (part_lt n))
  part_is (negsuc n) p q = absurd (subst T p tt)

-- ---- to the data

-- a byte is the machine's number, and can be taken without its sign
pub byte-back : (z : ℤ) → T (in_bits 8 z) → back w32 z ≡ z
byte-back (pos n) t = to_z-of_z w32 (pos n) (record { sfits = omega (arith, ltb→lt n (2 ^ 8) t) })
byte-back (negsuc n) t = absurd t

pub byte_cast : (z : ℤ) → T (in_bits 8 z) → T (non_neg (back w32 z)) × Fits w32 (nat_abs (back w32 z))
byte_cast z t = rw (byte-back z t) (by z t)
  where
    by : (z : ℤ) → T (in_bits 8 z) → T (non_neg z) × Fits w32 (nat_abs z)
    by (pos n) t = (tt, record { fits = omega (arith, ltb→lt n (2 ^ 8) t) })
    by (negsuc n) t = absurd t

pub byte-lt : (z : ℤ) → T (in_bits 8 z) → nat_abs (back w32 z) < 2 ^ 8
byte-lt z t = rw (byte-back z t) (by z t)
  where
    by : (z : ℤ) → T (in_bits 8 z) → nat_abs z < 2 ^ 8
    by (pos n) t = ltb→lt n (2 ^ 8) t
    by (negsuc n) t = absurd t

-- a number of 4 bits is one
nibble-byte : (z : ℤ) → T (in_bits 4 z) → T (in_bits 8 z)
nibble-byte (pos n) t = lt→ltb n (2 ^ 8) (omega (arith, ltb→lt n (2 ^ 4) t))
nibble-byte (negsuc n) t = t

-- the parts of the data, each a byte
pub record Three (ps : List ℤ) : Type 0 where
  pub low : T (in_bits 8 (cgms_part ps 0))
  pub middle : T (in_bits 8 (cgms_part ps 1))
  pub high : T (in_bits 8 (cgms_part ps 2))

pub three : (ps : List ℤ) → T (joins ps) → Three ps
three ps t =
    let a = in_bits 8 (cgms_part ps 0) in
    let b = in_bits 8 (cgms_part ps 1) in
    let c = in_bits 4 (cgms_part ps 2) in
    let rest = second a (b && c) t in
    record { low = first a (b && c) t; middle = first b c rest; high = nibble-byte (cgms_part ps 2) (second b c rest) }

-- three bytes in one number
pub joined_is : (a b c : ℕ) → a < 2 ^ 8 → b < 2 ^ 8 → c < 2 ^ 8
    → to_z w32 (a + b * 2 ^ 8 % 2 ^ 32 + c * 2 ^ 16 % 2 ^ 32) ≡ pos (a + 2 ^ 8 * b + 2 ^ 16 * c)
joined_is a b c h k l =
    let e : a + b * 2 ^ 8 % 2 ^ 32 + c * 2 ^ 16 % 2 ^ 32 ≡ a + 2 ^ 8 * b + 2 ^ 16 * c = omega arith in
    ap (to_z w32) e ∙ as_signed (a + 2 ^ 8 * b + 2 ^ 16 * c) (omega arith)
