-- `signals::clear_kind` meets its contract: one write, bits 7-4 of the first register.
use Rattle.std.proofs.Common.{ap, ◌∙◌}
use Rattle.field_table.specs.Writes.{put, puts}
use Rattle.adv7194_table.specs.declared.blocks.Block.{Block}
use Rattle.adv7194_settings.proofs.Names.{off_write}
use Rattle.adv7194_wanted.proofs.signals.clear_kind.Goals as goal

pub returns : goal.returns
unfolding puts
returns c = record { memory = c.put.ensures.memory ∙ ap (λ (b : Block). put c.args.image.now (off_write b)) c.block_of.ensures.answer }
