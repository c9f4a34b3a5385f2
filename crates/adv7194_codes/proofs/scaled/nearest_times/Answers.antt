-- `scaled::nearest_times` meets its contract: the product moved by half the denominator, and its quotient. Assumes nothing.
use mathlib.Core.Path.{◌≡◌}
use Prim.Native.Nat.{◌+◌, ◌*◌, ◌/◌}
use native.Mathlib.Omega.{arith}
use lib.IntN.{nat_abs}
use mir.Syntax.{w32}
use mir.Val.{to_z}
use mir.ValLaws.{to_z-of_z}
use Rattle.field_table.proofs.Signed.{as_signed}
use Rattle.adv7194_codes.specs.Signs.{with_sign}
use Rattle.adv7194_codes.proofs.ScaledLaws.{signed_fits, product-made, moved_down, moved-up, quotient-nearest, nearest-fits, positive}
use Rattle.adv7194_codes.proofs.scaled.nearest_times.Goals as goal
use Rattle.adv7194_codes.proofs.scaled.nearest_times.Goals.{then-product-lt0, else-product-lt0}

pub overflow_sub-moved : goal.overflow_sub-moved
overflow_sub-moved c =
    let a = c.args in
    let made = product-made a.numerator a.setting c.requires.1 (omega (arith, c.requires.3)) c.ranges.setting in
    rw (made, as_signed (a.denominator / 2) (omega (arith, c.requires.3)), moved_down a.setting (a.numerator * nat_abs a.setting) (a.denominator / 2) (rw made at c.if-product-lt0.true))
    (signed_fits a.setting (a.numerator * nat_abs a.setting + a.denominator / 2) (omega (arith, c.requires.3)))

pub overflow_add-moved : goal.overflow_add-moved
overflow_add-moved c =
    let a = c.args in
    let made = product-made a.numerator a.setting c.requires.1 (omega (arith, c.requires.3)) c.ranges.setting in
    rw (
      made,
      as_signed (a.denominator / 2) (omega (arith, c.requires.3)),
      moved-up a.setting (a.numerator * nat_abs a.setting) (a.denominator / 2) (rw made at c.if-product-lt0.false) (positive a.numerator (nat_abs a.setting) c.requires.0),
    )
    (signed_fits a.setting (a.numerator * nat_abs a.setting + a.denominator / 2) (omega (arith, c.requires.3)))

-- what either arm made
moved : (c : goal.Joined-product-lt0) → (let a = c.args in
    to_z w32 c.if-product-lt0.moved-bits ≡ with_sign a.setting (a.numerator * nat_abs a.setting + a.denominator / 2))
moved c =
    let a = c.args in
    let x = a.numerator * nat_abs a.setting in
    let made = product-made a.numerator a.setting c.requires.1 (omega (arith, c.requires.3)) c.ranges.setting in
    let half = as_signed (a.denominator / 2) (omega (arith, c.requires.3)) in
    let fits = signed_fits a.setting (x + a.denominator / 2) (omega (arith, c.requires.3)) in
    elim c.if-product-lt0.branch [
      | then-product-lt0 w ↦
          rw (w.moved-is, made, half, moved_down a.setting x (a.denominator / 2) (rw made at w.if-product-lt0.true)) (to_z-of_z w32 _ fits)
      | else-product-lt0 w ↦
          rw (w.moved-is, made, half, moved-up a.setting x (a.denominator / 2) (rw made at w.if-product-lt0.false) (positive a.numerator (nat_abs a.setting) c.requires.0)) (to_z-of_z w32 _ fits)
    ]

pub nonzero_div-result : goal.nonzero_div-result
nonzero_div-result c =
    let a = c.args in (
      c.requires.2,
      rw (moved c, as_signed a.denominator (omega (arith, c.requires.3)), quotient-nearest a.numerator a.denominator a.setting c.requires.2)
          (nearest-fits a.numerator a.denominator a.setting c.requires.2 c.requires.3),
    )

pub returns : goal.returns
returns c = record {
  answer =
      let a = c.args in
      rw (moved c, as_signed a.denominator (omega (arith, c.requires.3)), quotient-nearest a.numerator a.denominator a.setting c.requires.2)
      (to_z-of_z w32 _ (nearest-fits a.numerator a.denominator a.setting c.requires.2 c.requires.3));
}
