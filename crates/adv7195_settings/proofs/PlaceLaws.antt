-- The places of the settings' checking order are rows 3 and 4, at fields: rows that agree there refuse alike. Assumes nothing.
use mathlib.Core.Path.{◌≡◌, refl}
use mathlib.Core.Bool.{Bool, true, false, not, ◌||◌, and-eq-true_iff}
use mathlib.Core.List.{List}
use Prim.Native.Nat.{ℕ}
use lib.Dec.{eqb}
use lib.IntN.{ℤ}
use borrow.Author.Tests.{not-true}
use Rattle.refusals.specs.Verdict.{refused_at}
use Rattle.refusals.specs.Order.{first_of}
use Rattle.refusals.proofs.PlaceLaws.{all_pass, same_first, refused-at}
use Rattle.field_table.proofs.PlaceLaws.{at_field, numbered, order-passes}
use Rattle.adv7195_settings.specs.Fields.{modes, outputs, blocks, filters, fields}
use Rattle.adv7195_settings.specs.Rows.{setting_row, order, check_of}

-- no field is numbered 0
fields-numbered : numbered fields ≡ true
unfolding modes outputs blocks filters fields
fields-numbered = refl

-- so the order's places are at fields
order-at-fields : all_pass at_field order ≡ true
unfolding order
order-at-fields = order-passes fields fields-numbered

-- rows that agree at every field refuse alike
pub rows_alike : (rows others : ℕ → ℕ → Bool) → ((n f : ℕ) → eqb f 0 ≡ false → rows n f ≡ others n f) → first_of rows order (tt {0}) ≡ first_of others order tt
rows_alike rows others agree =
    same_first at_field rows others (λ n f e. agree n f (not-true (eqb f 0) ((and-eq-true_iff (not (eqb f 0)) (eqb n 3 || eqb n 4)).0 e).0)) order (tt {0})
    order-at-fields

-- settings are refused by 3 or 4
pub setting_refusal : (zs : List ℤ) (n f : ℕ) → check_of zs ≡ refused_at n f → (eqb n 3 || eqb n 4) ≡ true
unfolding check_of
setting_refusal zs n f e =
    ((and-eq-true_iff (not (eqb f 0)) (eqb n 3 || eqb n 4)).0 (refused-at at_field (setting_row zs) order n f order-at-fields e)).1
