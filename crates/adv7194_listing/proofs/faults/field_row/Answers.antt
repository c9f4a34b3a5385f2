-- `faults::field_row`: a row of the field is the one, and another is passed. Assumes nothing.
use Rattle.std.proofs.Common.{◌≡◌, ◌∙◌, sym, ap, arith, length}
use Rattle.field_table.specs.declared.row.Row.{Row}
use Rattle.adv7194_listing.specs.Faults.{row_at}
use Rattle.adv7194_listing.proofs.FaultLaws.{packed_rows, row_here, row-past, row-none}
use Rattle.adv7194_listing.proofs.faults.field_row.Goals as goal

pub loop-packed-init : goal.loop-packed-init
loop-packed-init c = ap (row_at c.args.field) c.rows-packed-items.ensures.answer

pub returns-then-row-field : goal.returns-then-row-field
returns-then-row-field c =
    let ps = c.rows-packed-items.result in
    let size : length ps ≡ 26 = packed_rows ps c.rows-packed-items.ensures.answer in
    let row = c.row_of-row.ensures.answer in
    let same = ap (λ (r : Row). r.field) (sym row) ∙ c.if-row-field.true in
    record { answer = row ∙ sym (row_here c.args.field ps c.loop-packed.packed-index (omega arith) same) ∙ c.loop-packed.invariant }

pub loop-packed-preserved : goal.loop-packed-preserved
loop-packed-preserved c =
    let ps = c.rows-packed-items.result in
    let size : length ps ≡ 26 = packed_rows ps c.rows-packed-items.ensures.answer in
    let row = c.row_of-row.ensures.answer in
    sym (row-past c.args.field ps c.loop-packed.packed-index (omega arith) (λ q. c.if-row-field.false (ap (λ (r : Row). r.field) row ∙ q)))
    ∙ c.loop-packed.invariant

pub returns : goal.returns
returns c =
    let ps = c.rows-packed-items.result in
    let size : length ps ≡ 26 = packed_rows ps c.rows-packed-items.ensures.answer in
    record { answer = sym (row-none c.args.field ps c.loop-packed.packed-index (omega arith)) ∙ c.loop-packed.invariant }
