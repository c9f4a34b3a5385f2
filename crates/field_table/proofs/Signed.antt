-- The machine's signed 32-bit numbers, where they are small. Assumes nothing.
use mathlib.Core.Path.{◌≡◌, refl, sym, ap, ◌∙◌}
use mathlib.Core.Bool.{true, false}
use Prim.Native.Nat.{ℕ, zero, suc, ◌-◌, ◌^◌, ◌<◌}
use native.Mathlib.Omega.{arith}
use lib.Dec.{eqb}
use lib.IntN.{ℤ, pos, negsuc, neg_ℤ, ◌-ℤ◌}
use lib.Signed.{mag}
use mir.Syntax.{w32}
use mir.Val.{to_z, of_z, SFits}
use mir.ValLaws.{to_z-of_z}
use borrow.Author.Tests.{lt-ltb, eq-eqb, ne_eqb}
use Rattle.rounding.proofs.Range.{back}
use Rattle.field_table.specs.Blocks.{is}

-- a small magnitude as a signed number
pub as_signed : (r : ℕ) → r < 2 ^ 31 → to_z w32 r ≡ pos r
as_signed r h = to_z-of_z w32 (pos r) (record { sfits = h })

-- nought less a number is its opposite
opposite_is : (r : ℕ) → pos 0 -ℤ pos r ≡ neg_ℤ (pos r)
opposite_is zero = refl
opposite_is (suc n) = rw (lt-ltb 0 (suc n) (omega arith)) (let e : suc n - 1 ≡ n = omega arith in ap negsuc e)

opposite_fits : (r : ℕ) → r < 2 ^ 31 → SFits w32 (neg_ℤ (pos r))
opposite_fits zero h = record { sfits = omega arith }
opposite_fits (suc n) h = record { sfits = omega arith }

-- the machine's negation of a small magnitude
pub negated_fits : (r : ℕ) → r < 2 ^ 31 → SFits w32 (pos 0 -ℤ to_z w32 r)
negated_fits r h = rw (as_signed r h, opposite_is r) (opposite_fits r h)

pub negated : (r : ℕ) → r < 2 ^ 31 → back w32 (pos 0 -ℤ to_z w32 r) ≡ neg_ℤ (pos r)
negated r h = rw (as_signed r h, opposite_is r) (to_z-of_z w32 (neg_ℤ (pos r)) (opposite_fits r h))

-- ---- a number compared with a small one, as the machine compares them

pub is-bits : (n : ℕ) (z : ℤ) → n < 256 → mag z < 2 ^ 31 → eqb (of_z w32 z) n ≡ is n z
is-bits n (pos m) h f = refl
is-bits n (negsuc m) h f = ne_eqb (of_z w32 (negsuc m)) n (λ e. omega (arith, f, e))

-- where it finds them the same, and where it doesn't
pub is_same : (n : ℕ) (z : ℤ) → n < 256 → mag z < 2 ^ 31 → of_z w32 z ≡ n → is n z ≡ true
is_same n z h f e = sym (is-bits n z h f) ∙ eq-eqb (of_z w32 z) n e

pub is_other : (n : ℕ) (z : ℤ) → n < 256 → mag z < 2 ^ 31 → (of_z w32 z ≡ n → ⊥) → is n z ≡ false
is_other n z h f e = sym (is-bits n z h f) ∙ ne_eqb (of_z w32 z) n e
