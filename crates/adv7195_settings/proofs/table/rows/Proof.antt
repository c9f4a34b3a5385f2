-- `table::rows` meets its contract: the one test that holds every row to the table. Assumes nothing.
use mathlib.Core.Path.{refl}
use Rattle.field_table.specs.Coding.{plain_fields}
use Rattle.adv7195_settings.specs.Fields.{modes, outputs, blocks, filters, fields}
use Rattle.adv7195_settings.proofs.table.rows.Statement.{statement}
use Rattle.adv7195_settings.proofs.table.rows.Tie as tie

returns : tie.Need-returns
unfolding plain_fields modes outputs blocks filters fields
returns c = refl

pub rows_spec : {M : Type 1} → statement M
rows_spec = tie.close (tie.spec
    returns)
