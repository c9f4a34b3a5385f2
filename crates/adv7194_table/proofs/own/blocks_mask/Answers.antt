-- What is summed and the blocks that are left give what all blocks do.
use Rattle.std.proofs.Common.{ap, arith}
use Rattle.adv7194_table.specs.Masks.{blocks_mask}
use Rattle.adv7194_table.proofs.MaskLaws.{blocks-next, blocks_end}
use Rattle.adv7194_table.proofs.own.blocks_mask.Goals as goal

pub loop-packed-preserved : goal.loop-packed-preserved
loop-packed-preserved c =
    let l = c.loop-packed in
    let bits = c.block_bits-mask.ensures in
    record {
      small = omega (arith, bits.small);
      sum = omega (arith, bits.answer, blocks-next c.args.field c.args.register c.blocks-packed-items.result l.packed-index (omega arith));
    }

pub returns-clause-answer : goal.returns-clause-answer
returns-clause-answer c =
    let n = c.args.field in
    let r = c.args.register in
    let all = ap (blocks_mask n r) c.blocks-packed-items.ensures.answer in
    omega (arith, all, blocks_end n r c.blocks-packed-items.result c.loop-packed.packed-index (omega arith) (omega arith))
