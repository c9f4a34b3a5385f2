-- `differences::field_differs`: some register's bits differ exactly where the codes do.
use Rattle.std.proofs.Common.{rules, tests, refl, ◌∙◌, not, eqb}
use Rattle.std.proofs.lemmas.Iterator.{YieldsList-from_range}
use Rattle.std.proofs.lemmas.Iterator.Search.{any_from_yields_List}
use Rattle.adv7194_table.specs.RawCodes.{own_bits}
use Rattle.adv7194_compare.proofs.DifferenceLaws.{some_differ}
use Rattle.adv7194_compare.proofs.differences.field_differs.Goals as goal

pub returns : goal.returns
returns c =
    let a = c.args.a.now in
    let b = c.args.b.now in
    let n = c.args.field in
    record {
      answer =
          any_from_yields_List (λ r. not (eqb (own_bits a n r) (own_bits b n r))) _ _ _ c.any.ensures.ran
          (YieldsList-from_range 0 54 54 refl refl) (λ x t q k. search (rules, tests))
          ∙ some_differ a b n 0 54;
    }
