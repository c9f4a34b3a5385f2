-- What is summed and the rows that are left give what all rows do.
use Rattle.std.proofs.Common.{ap, arith}
use Rattle.adv7194_table.specs.Masks.{rows_mask}
use Rattle.adv7194_table.proofs.MaskLaws.{rows_next, rows_end}
use Rattle.adv7194_table.proofs.own.rows_mask.Goals as goal

pub loop-packed-preserved : goal.loop-packed-preserved
loop-packed-preserved c =
    let l = c.loop-packed in
    let bits = c.row_bits-mask.ensures in
    record {
      small = omega (arith, bits.small);
      sum = omega (arith, bits.answer, rows_next c.args.field c.args.register c.rows-packed-items.result l.packed-index (omega arith));
    }

pub returns-clause-answer : goal.returns-clause-answer
returns-clause-answer c =
    let n = c.args.field in
    let r = c.args.register in
    let all = ap (rows_mask n r) c.rows-packed-items.ensures.answer in
    omega (arith, all, rows_end n r c.rows-packed-items.result c.loop-packed.packed-index (omega arith) (omega arith))
