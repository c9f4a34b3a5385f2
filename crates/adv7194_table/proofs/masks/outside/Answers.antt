-- What a byte has besides the two masks of the register.
use Rattle.std.proofs.Common.{arith}
use Rattle.adv7194_table.specs.Masks.{outside_mask}
use Rattle.adv7194_table.proofs.MaskLaws.{fields-small, field-mask-at, zero-mask-at}
use Rattle.adv7194_table.proofs.masks.outside.Goals as goal

pub overflow_sub-result-2 : goal.overflow_sub-result-2
overflow_sub-result-2 c =
    let r = c.args.register in
    rw (c.field_masks-masks.ensures.answer, field-mask-at r c.requires, c.must_be_zero.ensures.answer, zero-mask-at r c.requires)
    (omega (arith, fields-small r c.requires))

pub returns : goal.returns
unfolding outside_mask
returns c =
    let r = c.args.register in
    record {
      answer = rw (c.field_masks-masks.ensures.answer, field-mask-at r c.requires, c.must_be_zero.ensures.answer, zero-mask-at r c.requires) (omega arith);
    }
