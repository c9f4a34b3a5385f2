-- `lines::row_line` meets its contract: number and name, the setting and the line end in a row. Assumes nothing.
use native.Mathlib.Omega.{arith}
use Rattle.field_table.specs.Rows.{row_of}
use Rattle.adv7194_names.specs.Names.{named}
use Rattle.adv7194_names.specs.Values.{number_text}
use Rattle.adv7194_lines.proofs.LineLaws.{unlisted, listed-row}
use Rattle.writing.proofs.Putting.{put, same_text, looked, unwritten}
use Rattle.adv7194_lines.proofs.LineLaws.{composed}
use borrow.Author.Rules.{rules}
use Rattle.adv7194_lines.proofs.lines.row_line.Statement.{statement}
use Rattle.adv7194_lines.proofs.lines.row_line.Tie as tie

returns : tie.Need-returns-then-row-ge-NUMBERS
returns c =
    let r = c.row_of-row in
    let start = c in
    let a = start.args in
    same_text (unlisted a.numbers.now (row_of a.packed) r.ensures c.if-row-ge-NUMBERS.true) (unwritten a.line.now a.at (omega (arith, start.requires)))

returns-2 : tie.Need-returns
returns-2 c =
    let e = c in
    let v = c in
    let g = v.given in
    let s = c in
    let l = c in
    let t = c in
    let r = t.row_of-row in
    let start = c in
    let a = start.args in
    let value = looked (number_text (named r.result.field)) g.type_inv g.ensures v.put_setting-setting.ensures in
    let w =
    composed l.put_label-label.ensures (put s.put-spaced.ensures.0 s.put-spaced.ensures.1) value (put e.put.ensures.0 e.put.ensures.1) (omega arith)
    start.requires in
    same_text (listed-row a.numbers.now (row_of a.packed) r.ensures t.if-row-ge-NUMBERS.false) w

pub row_line_spec : {M : Type 1} → statement M
row_line_spec =
    tie.close
    (tie.spec
    (λ c κs. search rules)
    returns
    (λ c κs. search rules)
    (λ c κs. search rules)
    (λ c κs. search rules)
    (λ c κs. search rules)
    (λ c κs. search rules)
    (λ c. search rules)
    returns-2)
