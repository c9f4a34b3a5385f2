-- `thousandths::thousandths_setting` meets its contract. Assumes nothing.
use mathlib.Core.Path.{sym, ap, ◌∙◌}
use Prim.Native.Nat.{◌≤◌}
use native.Mathlib.Omega.{arith}
use Rattle.refusals.specs.Refusal.{accepted}
use Rattle.field_table.specs.Rows.{row_of}
use Rattle.field_table.proofs.Signed.{as_signed}
use Rattle.adv7194_codes.proofs.Rounded.{least-small, read_least, read_none}
use Rattle.adv7194_codes.proofs.thousandths.thousandths_setting.Goals as goal

pub overflow_cast-setting : goal.overflow_cast-setting
overflow_cast-setting c = record {
  sfits = omega (arith, least-small c.args.code _ c.ranges.code.fits c.least_multiple-setting.ensures.answer);
}

pub returns-then-out_of_range : goal.returns-then-out_of_range
returns-then-out_of_range c =
    let small : c.least_multiple-setting.result ≤ 1996 = least-small c.args.code _ c.ranges.code.fits c.least_multiple-setting.ensures.answer in
    let same = as_signed c.least_multiple-setting.result (omega (arith, small)) in
    record {
      answer =
          read_none (row_of c.args.packed) c.requires c.args.code _ (rw same at (sym c.if-out_of_range.ensures.answer))
          c.least_multiple-setting.ensures.answer;
    }

pub returns-else-out_of_range : goal.returns-else-out_of_range
returns-else-out_of_range c =
    let small : c.least_multiple-setting.result ≤ 1996 = least-small c.args.code _ c.ranges.code.fits c.least_multiple-setting.ensures.answer in
    let same = as_signed c.least_multiple-setting.result (omega (arith, small)) in
    record {
      answer =
          ap accepted same
          ∙ read_least (row_of c.args.packed) c.requires c.args.code _ (rw same at (sym c.if-out_of_range.ensures.answer))
          c.least_multiple-setting.ensures.answer;
    }
