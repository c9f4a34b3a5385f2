-- A byte that ends a column takes one from the columns that are left.
use Rattle.std.proofs.Common.{◌≡◌, ◌∙◌, ◌+◌, ◌<◌, sym, ap, refl, length, drop, arith}
use Rattle.template.specs.Columns.{column_in}
use Rattle.template.proofs.ColumnLaws.{at-end, one_less, as_many}
use Rattle.template.proofs.columns.column_start.Goals as goal
use Rattle.template.proofs.columns.column_start.Goals.{then-is_end, else-is_end}

pub loop-at-preserved : goal.loop-at-preserved
loop-at-preserved c =
    let l = c.loop-at in
    let t = c.args.table.now in
    let h : l.at < length t = omega arith in
    let some : 0 < l.left = omega arith in
    let same = sym c.is_end.ensures.answer in
    elim c.if-is_end.branch [
      | then-is_end w ↦ ap (column_in (drop (l.at + 1) t)) w.left-is ∙ sym (one_less t l.at l.left h some (same ∙ w.if-is_end.true))
      | else-is_end w ↦ ap (column_in (drop (l.at + 1) t)) w.left-is ∙ sym (as_many t l.at l.left h some (same ∙ w.if-is_end.false))
    ]
    ∙ l.invariant

pub returns-clause-answer : goal.returns-clause-answer
returns-clause-answer c =
    let l = c.loop-at in
    let t = c.args.table.now in
    let all : l.at ≡ length t = omega arith in
    at-end t (length t) 0 refl ∙ sym (at-end t l.at l.left all) ∙ l.invariant
