-- The part found is the column, and is filled.
use Rattle.std.proofs.Common.{◌∙◌, ◌-◌, ap, arith, drop, length-drop, length-take}
use Rattle.template.specs.Template.{widths}
use Rattle.template.proofs.fill_column.Goals as goal

pub fill-requires : goal.fill-requires
fill-requires c =
    let part = c.column_end-end.ensures.answer ∙ c.column_start-start.ensures.answer in
    let table = c.args.table.now in
    let from = c.column_start-start.result in (
      omega (arith, ap widths part, c.requires.0),
      omega (arith, length-take (c.column_end-end.result - from) (drop from table), length-drop from table, c.requires.1),
    )

pub returns : goal.returns
returns c =
    let part = c.column_end-end.ensures.answer ∙ c.column_start-start.ensures.answer in
    record { written = rw part at c.fill.ensures.written }
