-- `places::keep` meets its contract: a value after the other.
use Rattle.std.proofs.Math.ListN.{set}
use Rattle.std.proofs.Common.{◌≡◌, ◌+◌, List, ℤ, pos, get_or, sym, ap, ◌∙◌, drop, rules}
use Rattle.field_table.specs.Blocks.{store_from}
use Rattle.adv7194_reading_blocks.proofs.StoreLaws.{stored-next, stored-end}
use Rattle.adv7194_reading_blocks.proofs.places.keep.Goals as goal

pub loop-i-preserved : goal.loop-i-preserved
loop-i-preserved c =
    let i = c.loop-i.i in
    let vs = c.args.values.now in
    let stored : c.store.new.numbers ≡ set c.loop-i.numbers (c.args.index + i) (get_or vs i (pos 0)) = search rules in
    ap (λ (x : List ℤ). store_from x (c.args.index + (i + 1)) (drop (i + 1) vs)) stored
    ∙ sym (stored-next c.args.index vs i c.loop-i.numbers c.loop-i-test.true) ∙ c.loop-i.invariant

pub returns : goal.returns
returns c =
    record {
      memory =
          sym (stored-end c.args.index c.args.values.now c.loop-i.i c.loop-i.numbers c.loop-i-test.false c.loop-i.auto.i-end) ∙ c.loop-i.invariant;
    }
