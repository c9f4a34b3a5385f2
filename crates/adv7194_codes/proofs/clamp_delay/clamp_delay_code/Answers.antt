-- `clamp_delay::clamp_delay_code` meets its contract: one test, computed at each setting of the range. Assumes nothing.
use mathlib.Core.Path.{◌≡◌, refl, sym}
use mathlib.Core.Bool.{false, not}
use lib.IntN.{pos, ◌+ℤ◌, ◌-ℤ◌, nat_abs}
use lib.Signed.{lt_z}
use lib.Dec.{eqb, eqb→eq}
use mir.Syntax.{w32}
use mir.ValLaws.{to_z-of_z}
use Rattle.rounding.proofs.Range.{back, imp, imp→, imp→not}
use Rattle.field_table.specs.Coding.{outside, code_by, code_of}
use Rattle.field_table.proofs.Judging.{outside-refused, inside_coded, in_range}
use Rattle.adv7194_table.specs.Fields.{clamp_delay}
use Rattle.adv7194_codes.proofs.clamp_delay.clamp_delay_code.Goals as goal

pub returns-then-out_of_range : goal.returns-then-out_of_range
returns-then-out_of_range c = record {
  answer = outside-refused clamp_delay _ (rw (to_z-of_z w32 c.args.clocks c.ranges.clocks) at (sym c.if-out_of_range.ensures.answer)) refl;
}

pub returns-then-clocks-lt0 : goal.returns-then-clocks-lt0
unfolding code_by
returns-then-clocks-lt0 c =
    let inside : outside clamp_delay.row c.args.clocks ≡ false = rw (to_z-of_z w32 c.args.clocks c.ranges.clocks) at (sym c.if-out_of_range.ensures.answer) in
    let coded =
    in_range 3 3 (λ s. imp (lt_z (back w32 s) (pos 0)) (eqb (nat_abs (back w32 (pos 4 +ℤ back w32 (pos 0 -ℤ back w32 s)))) (code_of clamp_delay s))) tt
    c.args.clocks inside in
    record { answer = inside_coded clamp_delay _ _ inside (eqb→eq _ _ (imp→ _ _ coded c.if-clocks-lt0.true)) }

pub returns : goal.returns
unfolding code_by
returns c =
    let inside : outside clamp_delay.row c.args.clocks ≡ false = rw (to_z-of_z w32 c.args.clocks c.ranges.clocks) at (sym c.if-out_of_range.ensures.answer) in
    let coded = in_range 3 3 (λ s. imp (not (lt_z (back w32 s) (pos 0))) (eqb (nat_abs (back w32 s)) (code_of clamp_delay s))) tt c.args.clocks inside in
    record { answer = inside_coded clamp_delay _ _ inside (eqb→eq _ _ (imp→not _ _ coded c.if-clocks-lt0.false)) }
