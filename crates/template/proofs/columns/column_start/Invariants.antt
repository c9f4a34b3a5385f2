-- The column sought is as many columns on as are left.
use Rattle.std.proofs.Common.{◌≡◌, drop}
use Rattle.template.specs.Columns.{column_in}
use Rattle.template.proofs.columns.column_start.Given as goal

abbrev pub invariant-loop-at : goal.invariant-loop-at
invariant-loop-at l = column_in (drop l.at l.table) l.left ≡ column_in l.table l.k
