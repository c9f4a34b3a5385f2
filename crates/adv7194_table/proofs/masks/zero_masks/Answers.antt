-- Every entry of the table is compared with what the field table computes.
use Rattle.std.proofs.Common.{refl}
use Rattle.adv7194_table.specs.Fields.{timing, output, picture, dnr}
use Rattle.adv7194_table.specs.Table.{table}
use Rattle.adv7194_table.specs.Masks.{mask_where, zero_mask, zero_masks}
use Rattle.adv7194_table.proofs.masks.zero_masks.Goals as goal

pub returns : goal.returns
unfolding zero_masks zero_mask mask_where table timing output picture dnr
returns c = record { answer = refl }
