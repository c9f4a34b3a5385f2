-- `lines::setting_lines` meets its contract: the lines of the table's parts in a row. Assumes nothing.
use Prim.Native.Nat.{◌*◌}
use native.Mathlib.Omega.{arith}
use lib.ListN.{take, drop}
use Rattle.adv7194_names.specs.Widths.{line_width, text_width}
use Rattle.adv7194_lines.proofs.LineLaws.{table-lines, take-most}
use Rattle.writing.proofs.Putting.{wider, same_text, more}
use borrow.Author.Rules.{rules}
use Rattle.adv7194_lines.proofs.lines.setting_lines.Statement.{statement}
use Rattle.adv7194_lines.proofs.lines.setting_lines.Tie as tie

returns : tie.Need-returns
returns c =
    let d = c in
    let a = c in
    let b = c in
    let s = c in
    let f = c in
    let r = c in
    let start = c in
    let ps = r.rows-table.result in
    let front = wider (line_width * 10) (omega (arith, take-most 10 ps)) f.row_lines-front.ensures in
    let back = wider (line_width * 16) (omega (arith, take-most 16 (drop 10 ps))) b.row_lines-back.ensures in
    let w = more front s.signalling_line-signalled.ensures (omega (arith, start.requires)) in
    let x = more w back (omega (arith, start.requires)) in
    let y = more x a.curve_line-first.ensures (omega (arith, start.requires)) in
    let z = more y d.curve_line.ensures (omega (arith, start.requires)) in
    same_text (table-lines start.args.numbers.now ps r.rows-table.ensures) (wider text_width (omega arith) z)

pub setting_lines_spec : {M : Type 1} → statement M
setting_lines_spec =
    tie.close
    (tie.spec
    (λ c κs. search rules)
    (λ c. search rules)
    (λ c. search rules)
    (λ c. search rules)
    (λ c κs. search rules)
    (λ c κs. search rules)
    (λ c. search rules)
    (λ c. search rules)
    (λ c. search rules)
    (λ c κs. search rules)
    (λ c κs. search rules)
    (λ c κs. search rules)
    (λ c. search rules)
    returns)
