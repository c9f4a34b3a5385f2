-- `sharpness::sharpness_code` meets its contract: one test, computed at each step of the range. Assumes nothing.
use mathlib.Core.Path.{◌≡◌, refl, sym}
use mathlib.Core.Bool.{false}
use lib.IntN.{pos, ◌+ℤ◌, nat_abs}
use lib.Dec.{eqb, eqb→eq}
use mir.Syntax.{w32}
use mir.ValLaws.{to_z-of_z}
use Rattle.rounding.proofs.Range.{back}
use Rattle.field_table.specs.Coding.{outside, code_by, code_of}
use Rattle.field_table.proofs.Judging.{outside-refused, inside_coded, in_range}
use Rattle.adv7194_table.specs.Fields.{sharpness}
use Rattle.adv7194_codes.proofs.sharpness.sharpness_code.Goals as goal

pub returns-then-out_of_range : goal.returns-then-out_of_range
returns-then-out_of_range c = record {
  answer = outside-refused sharpness _ (rw (to_z-of_z w32 c.args.step c.ranges.step) at (sym c.if-out_of_range.ensures.answer)) refl;
}

pub returns : goal.returns
unfolding code_by
returns c =
    let inside : outside sharpness.row c.args.step ≡ false = rw (to_z-of_z w32 c.args.step c.ranges.step) at (sym c.if-out_of_range.ensures.answer) in
    let coded = in_range 6 6 (λ s. eqb (nat_abs (back w32 (back w32 s +ℤ pos 6))) (code_of sharpness s)) tt c.args.step inside in
    record { answer = inside_coded sharpness _ _ inside (eqb→eq _ _ coded) }
