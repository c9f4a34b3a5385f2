-- Rows and blocks together have the field's bits, which are at most a byte.
use Rattle.std.proofs.Common.{sym, arith}
use Rattle.adv7194_table.proofs.MaskLaws.{own_split, own_small}
use Rattle.adv7194_table.proofs.own.own_mask.Goals as goal

pub overflow_cast-result : goal.overflow_cast-result
overflow_cast-result c =
    let n = c.args.field in
    let r = c.args.register in
    record { fits = omega (arith, own_split n r, own_small n r c.requires, c.rows_mask.ensures.answer, c.blocks_mask.ensures.answer) }

pub returns : goal.returns
returns c = record { answer = rw (c.rows_mask.ensures.answer, c.blocks_mask.ensures.answer) (sym (own_split c.args.field c.args.register)) }
