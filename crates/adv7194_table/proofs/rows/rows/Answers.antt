-- The one test that holds every row to the table.
use Rattle.std.proofs.Common.{refl}
use Rattle.adv7194_table.specs.Fields.{timing, output, picture, dnr}
use Rattle.adv7194_table.specs.Table.{table, single_fields, rows_in, rows_of}
use Rattle.adv7194_table.proofs.rows.rows.Goals as goal

pub returns : goal.returns
unfolding rows_of rows_in single_fields table timing output picture dnr
returns c = record { answer = refl }
