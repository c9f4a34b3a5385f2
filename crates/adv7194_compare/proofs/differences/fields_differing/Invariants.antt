-- `differences::fields_differing`: the map so far, and what the fields that are left add, is the whole map.
use Rattle.adv7194_compare.specs.Differences.{field_differs}
use Rattle.adv7194_compare.proofs.DifferenceLaws.{Gathering}
use Rattle.adv7194_compare.proofs.differences.fields_differing.Given as goal

abbrev pub invariant-loop-field : goal.invariant-loop-field
invariant-loop-field l = Gathering (field_differs l.a l.b) 1 29 l.map l.field
