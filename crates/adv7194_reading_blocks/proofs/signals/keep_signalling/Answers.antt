-- `signals::keep_signalling` meets its contract.
use Rattle.std.proofs.Common.{◌≡◌, ap, ◌∙◌, rules}
use Rattle.field_table.specs.Blocks.{store_from}
use Rattle.adv7194_signalling.specs.Answers.{numbers_of}
use Rattle.adv7194_reading_blocks.proofs.SignalLaws.{numbers-read}
use Rattle.adv7194_reading_blocks.proofs.signals.keep_signalling.Goals as goal

pub returns : goal.returns
returns c =
    let zs = c.args.numbers.now in
    let kept : c.keep.new.numbers ≡ store_from zs 10 (numbers_of c.unwrap_or-setting.result) = search rules in
    record { memory = kept ∙ ap (store_from zs 10) (numbers-read c.args.read c.unwrap_or-setting.ensures c.none.ensures.answer) }
