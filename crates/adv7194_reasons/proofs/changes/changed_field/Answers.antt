-- `changes::changed_field`: the first field that the search takes is the lowest that changes.
use Rattle.std.proofs.Common.{rules, tests, refl, sym, ap, ◌∙◌, not, eqb, List, ℕ}
use Rattle.std.proofs.lemmas.Iterator.{YieldsList-from_range}
use Rattle.std.proofs.lemmas.Iterator.Search.{find_from_yields_List}
use Rattle.adv7194_table.specs.RawCodes.{setting_bits}
use Rattle.adv7194_table.proofs.TableLaws.{order_is}
use Rattle.adv7194_reasons.specs.First.{first_true}
use Rattle.adv7194_reasons.specs.Reasons.{bits_differ}
use Rattle.adv7194_reasons.proofs.FirstLaws.{first_found}
use Rattle.adv7194_reasons.proofs.changes.changed_field.Goals as goal

pub returns : goal.returns
returns c =
    let P = bits_differ c.args.found.now c.args.wanted.now c.args.register in
    let found = find_from_yields_List P _ _ c.find.result c.find.ensures.ran (YieldsList-from_range 1 29 28 refl refl) (λ x t q k. search (rules, tests)) in
    record { answer = c.unwrap_or.ensures ∙ first_found P _ c.find.result 0 found ∙ sym (ap (λ (fs : List ℕ). first_true P fs 0) order_is) }
