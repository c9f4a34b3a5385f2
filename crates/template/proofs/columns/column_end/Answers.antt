-- The column ends at the first byte that ends one.
use Rattle.std.proofs.Common.{◌≡◌, ◌∙◌, ◌+◌, ◌-◌, length, take, drop, arith, rules, length-drop}
use Rattle.std.proofs.Math.Seq.{take_all}
use Rattle.std.proofs.lemmas.Iterator.{YieldsList-from_slice}
use Rattle.std.proofs.lemmas.Iterator.Search.{position_from_yields_List}
use Rattle.template.specs.Columns.{ends}
use Rattle.template.proofs.ColumnLaws.{before_end}
use Rattle.template.proofs.columns.column_end.Goals as goal

pub returns-clause-answer : goal.returns-clause-answer
returns-clause-answer c =
    let table = c.args.table.now in
    let start = c.args.start in
    let rest = drop start table in
    let whole : take (length table - start) rest ≡ rest = take_all (length table - start) rest (omega (arith, length-drop start table)) in
    let found =
    position_from_yields_List ends _ _ _ c.position.ensures.ran (YieldsList-from_slice rest (c.iter.ensures.rest ∙ whole)) (λ x b q k. search rules) in
    let same : start + c.unwrap_or.result - start ≡ c.unwrap_or.result = omega arith in
    rw same (before_end rest c.unwrap_or.result (rw (whole, found) at c.unwrap_or.ensures))
