-- `kinds::put_signalling` meets its contract: CGMS by itself, and for any other kind the template that it chooses. Assumes nothing.
use mathlib.Core.Path.{◌≡◌, refl, sym, ap, ◌∙◌}
use Prim.Native.Nat.{◌+◌, ◌≤◌}
use native.Mathlib.Omega.{arith}
use lib.ListN.{drop}
use borrow.Author.Rules.{rules}
use Rattle.field_table.specs.Blocks.{is}
use Rattle.writing.proofs.Putting.{same, same_text, wider}
use Rattle.template.specs.Columns.{column_in}
use Rattle.template.specs.Template.{filled, widths}
use Rattle.adv7194_names.specs.Widths.{signalling_width}
use Rattle.adv7194_names.proofs.Choosing.{is_not, number_is}
use Rattle.adv7194_lines.specs.declared.kinds.Template.{Template}
use Rattle.adv7194_lines.specs.Kinds.{number_at}
use Rattle.adv7194_lines.specs.Templates.{signalling_table, signalling_template}
use Rattle.adv7194_lines.proofs.KindLaws.{cgms-is, signalling-filled, signalling-room}
use Rattle.adv7194_lines.proofs.kinds.put_signalling.Statement.{statement}
use Rattle.adv7194_lines.proofs.kinds.put_signalling.Tie as tie

returns : tie.Need-returns-then-kind-eq-CGMS
returns c =
    let p = c in
    let i = c in
    let g = i.number_at-kind in
    let a = i.args in
    same_text (cgms-is a.numbers.now a.k (sym g.ensures ∙ number_is 1 g.result g.type_inv refl i.if-kind-eq-CGMS.true)) p.put_cgms.ensures

-- the template that the kind chooses
chosen : (c : tie.After-signalling_template-t) → (let a = c.args in
    c.signalling_template-t.result ≡ signalling_template (number_at a.numbers.now a.k))
chosen c = let g = c.number_at-kind in c.signalling_template-t.ensures ∙ ap signalling_template (same g.result g.type_inv ∙ g.ensures)

-- has room, and passes over few numbers
room : (c : tie.After-signalling_template-t) → (let t = c.signalling_template-t.result in
    (widths (column_in signalling_table t.column) ≤ signalling_width) × (t.skipped ≤ 3))
room c = let a = c.args in rw (chosen c) (signalling-room (number_at a.numbers.now a.k))

add-fill-column : tie.Need-overflow_add-k
add-fill-column c = let t = c.before.before.before.before in omega (arith, (room t).1, t.requires.1)

fill-column-requires : tie.Need-fill_column-requires
fill-column-requires c κs =
    let t = c.before.before.before.before in
    let start = c in
    (omega (arith, (room t).0, start.requires.0), omega (arith, (room t).1, start.requires.1))

returns-2 : tie.Need-returns
returns-2 c =
    let p = c in
    let t = c.before.before.before.before.before.before.before in
    let i = c in
    let g = i.number_at-kind in
    let a = i.args in
    let zs = a.numbers.now in
    let other = ap (is 1) (sym g.ensures) ∙ is_not 1 g.result refl i.if-kind-eq-CGMS.false in
    same_text
    (ap (λ (t : Template). filled (column_in signalling_table t.column) (drop (a.k + t.skipped) zs)) (chosen t) ∙ signalling-filled zs a.k other)
    (wider signalling_width (room t).0 p.fill_column.ensures)

pub put_signalling_spec : {M : Type 1} → statement M
put_signalling_spec =
    tie.close
    (tie.spec
    (λ c κs. search rules)
    (λ c κs. search rules)
    (λ c. search rules)
    returns
    (λ c κs. search rules)
    add-fill-column
    fill-column-requires
    (λ c. search rules)
    returns-2)
