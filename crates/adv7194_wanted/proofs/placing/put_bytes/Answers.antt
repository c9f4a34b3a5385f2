-- `placing::put_bytes` meets its contract: a byte after the other.
use Rattle.std.proofs.Common.{ℕ, ◌+◌, List, sym, ap, ◌∙◌, drop}
use Rattle.field_table.specs.Writes.{puts}
use Rattle.field_table.specs.Blocks.{byte_writes}
use Rattle.adv7194_table.specs.declared.blocks.Block.{Block}
use Rattle.adv7194_wanted.proofs.ByteLaws.{puts-bytes-next, puts-bytes-end}
use Rattle.adv7194_wanted.proofs.placing.put_bytes.Goals as goal

pub loop-i-preserved : goal.loop-i-preserved
loop-i-preserved c =
    let first = c.block_of-first.result.register in
    let bs = c.args.bytes.now in
    let i = c.loop-i.i in
    ap (λ (x : List ℕ). puts x (byte_writes (first + (i + 1)) (drop (i + 1) bs))) c.put.ensures.memory
    ∙ sym (puts-bytes-next first bs i c.loop-i.image c.loop-i-test.true) ∙ c.loop-i.invariant

pub returns : goal.returns
returns c =
    let bs = c.args.bytes.now in
    let register = ap (λ (b : Block). b.register) c.block_of-first.ensures.answer in
    record {
      memory =
          sym (puts-bytes-end c.block_of-first.result.register bs c.loop-i.i c.loop-i.image c.loop-i-test.false c.loop-i.auto.i-end)
          ∙ c.loop-i.invariant ∙ ap (λ (r : ℕ). puts c.args.image.now (byte_writes r bs)) register;
    }
