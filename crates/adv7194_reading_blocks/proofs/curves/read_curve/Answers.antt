-- `curves::read_curve` meets its contract: the bytes read are the block's.
use Rattle.std.proofs.Common.{ℕ, ap, ◌∙◌}
use Rattle.field_table.specs.Blocks.{store_from, slice}
use Rattle.adv7194_table.specs.declared.blocks.Block.{Block}
use Rattle.adv7194_table.specs.Blocks.{block_of}
use Rattle.adv7194_gamma.specs.Curve.{curve_numbers}
use Rattle.adv7194_gamma.specs.Answer.{bytes_in}
use Rattle.std.proofs.Common.{length}
use Rattle.adv7194_reading_blocks.proofs.CurveLaws.{kept_block, bytes_read}
use Rattle.adv7194_reading_blocks.proofs.curves.read_curve.Goals as goal

pub returns-clause-memory : goal.returns-clause-memory
returns-clause-memory c =
    let image = c.args.image.now in
    let zs = c.args.numbers.now in
    let register = ap (λ (b : Block). b.register) c.block_of-block.ensures.answer in
    let index = ap (λ (b : Block). b.index) c.block_of-block.ensures.answer in
    let bytes = bytes_read c.block_of-block.result.register (length image) c.in-Ok.ensures.answer (rw register c.requires.1) in
    kept_block image zs (block_of c.args.packed) c.requires.0 (bytes ∙ ap (λ (r : ℕ). slice 0 image r 7) register)
    (c.keep_curve.ensures.memory ∙ ap (λ (k : ℕ). store_from zs k (curve_numbers (bytes_in c.in-Ok.points))) index)
