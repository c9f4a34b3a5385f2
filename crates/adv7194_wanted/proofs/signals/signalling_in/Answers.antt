-- `signals::signalling_in` meets its contract: the numbers passed on are the block's.
use Rattle.std.proofs.Common.{ap, ◌∙◌, arith}
use Rattle.adv7194_table.specs.declared.blocks.Block.{Block}
use Rattle.adv7194_wanted.proofs.ByteLaws.{part_numbers}
use Rattle.adv7194_wanted.proofs.signals.signalling_in.Goals as goal

pub returns : goal.returns
returns c =
    let at = ap (λ (b : Block). b.index) c.block_of-first.ensures.answer in
    let size = c.requires in
    record { answer = c.of_five.ensures.answer ∙ part_numbers c.args.numbers.now 10 5 at (omega arith) }
