-- `thousandths::thousandths_code` meets its contract. Assumes nothing.
use mathlib.Core.Path.{◌≡◌, refl, sym, ◌∙◌}
use mathlib.Core.Bool.{false}
use native.Mathlib.Omega.{arith}
use mir.Syntax.{w32}
use mir.ValLaws.{to_z-of_z}
use Rattle.field_table.specs.Rows.{row_of}
use Rattle.field_table.specs.Coding.{outside}
use Rattle.field_table.proofs.Judging.{outside-refused, inside_coded}
use Rattle.adv7194_codes.specs.Thousandths.{in_thousandths}
use Rattle.adv7194_codes.proofs.Rounded.{scaled}
use Rattle.adv7194_codes.proofs.thousandths.thousandths_code.Goals as goal

pub returns-then-out_of_range : goal.returns-then-out_of_range
returns-then-out_of_range c =
    let t = rw (to_z-of_z w32 c.args.setting c.ranges.setting) at (sym c.if-out_of_range.ensures.answer) in
    record { answer = outside-refused (in_thousandths (row_of c.args.packed)) _ t refl }

pub overflow_cast-result : goal.overflow_cast-result
overflow_cast-result c =
    let same = to_z-of_z w32 c.args.setting c.ranges.setting in
    let inside : outside (row_of c.args.packed) c.args.setting ≡ false = rw same at (sym c.if-out_of_range.ensures.answer) in
    let found = rw same at c.nearest.ensures.answer in
    omega (arith, found, (scaled (row_of c.args.packed) c.requires c.args.setting inside).byte)

pub returns : goal.returns
returns c =
    let same = to_z-of_z w32 c.args.setting c.ranges.setting in
    let inside : outside (row_of c.args.packed) c.args.setting ≡ false = rw same at (sym c.if-out_of_range.ensures.answer) in
    let found = rw same at c.nearest.ensures.answer in
    record {
      answer =
          inside_coded (in_thousandths (row_of c.args.packed)) c.args.setting _ inside
          (found ∙ (scaled (row_of c.args.packed) c.requires c.args.setting inside).code);
    }
