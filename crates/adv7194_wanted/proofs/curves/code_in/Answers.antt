-- `curves::code_in` meets its contract: the numbers passed on are the block's.
use Rattle.std.proofs.Common.{sym, ap, ◌∙◌, pos}
use Rattle.field_table.specs.Blocks.{slice}
use Rattle.adv7194_table.specs.declared.blocks.Block.{Block}
use Rattle.adv7194_table.specs.Blocks.{block_of}
use Rattle.adv7194_gamma.specs.Curve.{curve_codes}
use Rattle.adv7194_wanted.proofs.ByteLaws.{part_numbers}
use Rattle.adv7194_wanted.proofs.curves.code_in.Goals as goal

pub returns : goal.returns
returns c =
    let at = ap (λ (b : Block). b.index) c.block_of-first.ensures.answer in
    let zs = c.args.numbers.now in
    let k = (block_of c.args.packed).index in
    record {
      answer = c.curve_code.ensures.answer ∙ ap curve_codes (part_numbers zs k 10 at c.requires.1 ∙ ap (slice (pos 0) zs k) (sym c.requires.0));
    }
