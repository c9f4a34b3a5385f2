-- The columns of the table of names and units. Assumes nothing.
use mathlib.Core.Path.{◌≡◌, refl}
use mathlib.Core.Bool.{true}
use Prim.Native.Nat.{ℕ, ◌+◌, ◌*◌, ◌≤◌, ◌<◌}
use lib.ListN.{length}
use Rattle.adv7194_names.specs.Names.{names, named}
use Rattle.template.specs.Columns.{column_in}
use Rattle.adv7194_names.specs.Columns.{columns_text, column_of}
use Rattle.adv7194_names.specs.Widths.{column_width}
use Rattle.adv7194_names.proofs.ColumnLaws.{clean_rows, column_at, narrow_rows, narrow_at}

clean : clean_rows names ≡ true
unfolding names
clean = refl

narrow : narrow_rows column_width names ≡ true
unfolding names
narrow = refl

-- column c of field f
pub field_column : (f c : ℕ) → c < 4 → column_in (columns_text names) (4 * f + c) ≡ column_of (named f) c
field_column f c h = column_at names f c clean h

-- has at most this many bytes
pub field-width : (f c : ℕ) → length (column_of (named f) c) ≤ column_width
field-width f c = narrow_at column_width names f c narrow
