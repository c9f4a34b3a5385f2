-- `hue::hue_code` meets its contract: one test, computed at each number of steps. Assumes nothing.
use mathlib.Core.Path.{◌≡◌, refl, sym}
use mathlib.Core.Bool.{false, ◌||◌}
use lib.IntN.{ℤ, pos, neg_ℤ, ◌+ℤ◌, nat_abs}
use lib.Signed.{non_neg, lt_z}
use lib.Dec.{lit<, ltb, ltb→lt, eqb, eqb→eq}
use mir.Syntax.{w32}
use mir.ValLaws.{to_z-of_z}
use Rattle.rounding.proofs.Range.{back, sfitsb, fits→}
use Rattle.field_table.specs.Coding.{outside, code_by, nearest_times}
use Rattle.field_table.proofs.Judging.{outside-refused, inside_coded, in_range}
use Rattle.adv7194_table.specs.Fields.{hue}
use Rattle.adv7194_codes.proofs.ScaledLaws.{rounded-in}
use Rattle.adv7194_codes.proofs.hue.hue_code.Goals as goal

-- how many steps a hue in the range is rounded to
bound : (z : ℤ) → outside hue.row z ≡ false → (lt_z (nearest_times 256 450 z) (neg_ℤ (pos 128)) || lt_z (pos 127) (nearest_times 256 450 z)) ≡ false
bound z o = rounded-in 256 450 224 224 127 127 (lit< tt) (lit< tt) (lit< tt) z o

pub returns-then-out_of_range : goal.returns-then-out_of_range
returns-then-out_of_range c = record {
  answer = outside-refused hue _ (rw (to_z-of_z w32 c.args.tenths c.ranges.tenths) at (sym c.if-out_of_range.ensures.answer)) refl;
}

pub overflow_add-result : goal.overflow_add-result
overflow_add-result c =
    let same = to_z-of_z w32 c.args.tenths c.ranges.tenths in
    let steps = bound c.args.tenths (rw same at (sym c.if-out_of_range.ensures.answer)) in
    rw (c.nearest_times.ensures.answer, same)
    (fits→ w32 _ (in_range 128 127 (λ r. sfitsb w32 (pos 128 +ℤ back w32 r)) tt (nearest_times 256 450 c.args.tenths) steps))

pub overflow_cast-result : goal.overflow_cast-result
overflow_cast-result c =
    let same = to_z-of_z w32 c.args.tenths c.ranges.tenths in
    let steps = bound c.args.tenths (rw same at (sym c.if-out_of_range.ensures.answer)) in
    let s = nearest_times 256 450 c.args.tenths in
    rw (c.nearest_times.ensures.answer, same) (
      in_range 128 127 (λ r. non_neg (back w32 (pos 128 +ℤ back w32 r))) tt s steps,
      record { fits = ltb→lt _ _ (in_range 128 127 (λ r. ltb (nat_abs (back w32 (pos 128 +ℤ back w32 r))) 256) tt s steps) },
    )

pub returns : goal.returns
unfolding code_by
returns c =
    let same = to_z-of_z w32 c.args.tenths c.ranges.tenths in
    let inside : outside hue.row c.args.tenths ≡ false = rw same at (sym c.if-out_of_range.ensures.answer) in
    let s = nearest_times 256 450 c.args.tenths in
    let coded = in_range 128 127 (λ r. eqb (nat_abs (back w32 (pos 128 +ℤ back w32 r))) (nat_abs (pos 128 +ℤ r))) tt s (bound c.args.tenths inside) in
    record { answer = rw (c.nearest_times.ensures.answer, same) (inside_coded hue c.args.tenths _ inside (eqb→eq _ _ coded)) }
