-- `field::all_bytes` meets its contract: each number after the third is tested. Assumes nothing.
use mathlib.Core.Path.{◌≡◌, refl, ap, ◌∙◌}
use mathlib.Core.Bool.{◌&&◌}
use mathlib.Core.List.{List, [], ◌∷◌}
use lib.IntN.{ℤ}
use lib.ListN.{drop}
use borrow.Author.Rules.{rules}
use Rattle.std.proofs.Common.{tests, arith, length-drop}
use Rattle.std.proofs.lemmas.List.{take_all}
use Rattle.std.specs.List.{list_all}
use Rattle.std.proofs.lemmas.Iterator.{YieldsList-from_slice}
use Rattle.std.proofs.lemmas.Iterator.Search.{all_from_yields_List}
use Rattle.field_table.specs.Blocks.{between}
use Rattle.adv7194_gamma.specs.Curve.{all_bytes}
use Rattle.adv7194_gamma.proofs.field.all_bytes.Goals as goal

-- the test of each is that of the curve
same : (zs : List ℤ) → list_all (between 0 255) zs ≡ all_bytes zs
same [] = refl
same (z ∷ zs) = ap (λ r. between 0 255 z && r) (same zs)

pub returns : goal.returns
returns c = record {
  answer =
      let xs = drop 3 c.args.numbers.now in
      all_from_yields_List (between 0 255) _ _ _ c.all.ensures.ran (YieldsList-from_slice xs (c.iter.ensures.rest ∙ take_all _ xs (omega (arith, length-drop 3 c.args.numbers.now)))) (λ x b q k. search (rules, tests)) ∙ same xs;
}
