-- `columns::names` meets its contract by computation. Assumes nothing.
use mathlib.Core.Path.{refl}
use Rattle.adv7194_names.specs.Names.{names}
use Rattle.adv7194_names.specs.Columns.{columns_text}
use Rattle.adv7194_names.proofs.columns.names.Statement.{statement}
use Rattle.adv7194_names.proofs.columns.names.Tie as tie

returns : tie.Need-returns
unfolding columns_text names
returns c = refl

pub names_spec : {M : Type 1} → statement M
names_spec = tie.close (tie.spec
    returns)
