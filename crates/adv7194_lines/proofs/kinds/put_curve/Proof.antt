-- `kinds::put_curve` meets its contract: the kind chooses the template. Assumes nothing.
use mathlib.Core.Path.{◌≡◌, ap, ◌∙◌}
use Prim.Native.Nat.{◌+◌, ◌≤◌}
use native.Mathlib.Omega.{arith}
use lib.ListN.{drop}
use borrow.Author.Rules.{rules}
use Rattle.writing.proofs.Putting.{same, same_text, wider}
use Rattle.template.specs.Columns.{column_in}
use Rattle.template.specs.Template.{filled, widths}
use Rattle.adv7194_names.specs.Widths.{curve_width}
use Rattle.adv7194_lines.specs.declared.kinds.Template.{Template}
use Rattle.adv7194_lines.specs.Kinds.{number_at}
use Rattle.adv7194_lines.specs.Templates.{curve_table, curve_template}
use Rattle.adv7194_lines.proofs.KindLaws.{curve-filled, curve-room}
use Rattle.adv7194_lines.proofs.kinds.put_curve.Statement.{statement}
use Rattle.adv7194_lines.proofs.kinds.put_curve.Tie as tie

-- the template that the kind chooses
chosen : (c : tie.After-curve_template-t) → (let a = c.args in
    c.curve_template-t.result ≡ curve_template (number_at a.numbers.now a.k))
chosen c = let g = c.number_at in c.curve_template-t.ensures ∙ ap curve_template (same g.result g.type_inv ∙ g.ensures)

-- has room, and passes over few numbers
room : (c : tie.After-curve_template-t) → (let t = c.curve_template-t.result in (widths (column_in curve_table t.column) ≤ curve_width) × (t.skipped ≤ 3))
room c = let a = c.args in rw (chosen c) (curve-room (number_at a.numbers.now a.k))

add-fill-column : tie.Need-overflow_add-k
add-fill-column c = let t = c.before.before.before.before in omega (arith, (room t).1, t.requires.1)

fill-column-requires : tie.Need-fill_column-requires
fill-column-requires c κs =
    let t = c.before.before.before.before in
    let start = c in
    (omega (arith, (room t).0, start.requires.0), omega (arith, (room t).1, start.requires.1))

returns : tie.Need-returns
returns c =
    let p = c in
    let t = c.before.before.before.before.before.before.before in
    let a = t.args in
    let zs = a.numbers.now in
    same_text (ap (λ (t : Template). filled (column_in curve_table t.column) (drop (a.k + t.skipped) zs)) (chosen t) ∙ curve-filled zs a.k)
    (wider curve_width (room t).0 p.fill_column.ensures)

pub put_curve_spec : {M : Type 1} → statement M
put_curve_spec =
    tie.close
    (tie.spec
    (λ c κs. search rules)
    (λ c κs. search rules)
    add-fill-column
    fill-column-requires
    (λ c. search rules)
    returns)
