-- The one test that holds every block to the table.
use Rattle.std.proofs.Common.{refl}
use Rattle.adv7194_table.specs.Fields.{timing, output, picture, dnr}
use Rattle.adv7194_table.specs.Blocks.{blocks_of}
use Rattle.adv7194_table.specs.Table.{table, blocks_in}
use Rattle.adv7194_table.proofs.blocks.blocks.Goals as goal

pub returns : goal.returns
unfolding blocks_of blocks_in table timing output picture dnr
returns c = record { answer = refl }
