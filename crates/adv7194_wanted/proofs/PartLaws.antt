-- What the two parts of the table set is the wanted image. Assumes nothing.
use mathlib.Core.Path.{◌≡◌}
use mathlib.Core.List.{List, flat_map}
use Prim.Native.Nat.{ℕ}
use lib.IntN.{ℤ}
use Rattle.field_table.specs.Writes.{puts}
use Rattle.field_table.proofs.WriteLaws.{then_puts}
use Rattle.adv7194_table.specs.Fields.{timing, output, picture, dnr}
use Rattle.adv7194_table.specs.Table.{table}
use Rattle.adv7194_settings.specs.Wanted.{writes_of, wanted_by}
use Rattle.adv7194_wanted.specs.Parts.{first_part, second_part}

-- the two parts are the table
pub wanted_parts : (zs : List ℤ) (image mid : List ℕ) {out : List ℕ} → out ≡ puts mid (writes_of zs second_part) → mid ≡ puts image (writes_of zs first_part)
    → out ≡ wanted_by image zs
unfolding wanted_by writes_of first_part second_part table timing output picture dnr flat_map
wanted_parts zs image mid e p = then_puts mid image (writes_of zs first_part) (writes_of zs second_part) e p
