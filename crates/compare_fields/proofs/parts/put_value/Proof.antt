-- `parts::put_value` meets its contract: the field chooses how its setting is written. Assumes nothing.
use mathlib.Core.Path.{sym, ap, ◌∙◌}
use native.Mathlib.Omega.{arith}
use borrow.Author.Rules.{rules}
use Rattle.adv7194_table.specs.declared.blocks.Block.{Block}
use Rattle.adv7194_names.specs.Widths.{curve_width}
use Rattle.adv7194_names.specs.Names.{named}
use Rattle.adv7194_names.specs.Values.{number_text}
use Rattle.adv7194_lines.specs.Kinds.{signalling_text, curve_text}
use Rattle.writing.proofs.Putting.{wider, same_text, looked}
use Rattle.compare_fields.specs.Values.{field_value}
use Rattle.compare_fields.proofs.PartLaws.{one_number, signalling-value, curve_a_value, curve_b_value, word_value}
use Rattle.compare_fields.proofs.parts.put_value.Statement.{statement}
use Rattle.compare_fields.proofs.parts.put_value.Tie as tie

put-signalling-requires : tie.Need-put_signalling-requires
put-signalling-requires c κs = (omega arith, omega (arith, ap (λ (x : Block). x.index) c.block_of.ensures))

put-curve-requires : tie.Need-put_curve-requires
put-curve-requires c κs = (omega arith, omega (arith, ap (λ (x : Block). x.index) c.block_of-then-field-eq-CURVE_A_FIELD.ensures))

put-curve-requires-2 : tie.Need-put_curve-requires-then-field-eq-CURVE_B_FIELD
put-curve-requires-2 c κs = (omega arith, omega (arith, ap (λ (x : Block). x.index) c.block_of-then-field-eq-CURVE_B_FIELD.ensures))

returns : tie.Need-returns-then-field-eq-SIGNALLING_FIELD
returns c =
    let p = c in
    let b = p.block_of in
    let t = c in
    let a = t.args in
    let zs = a.numbers.now in
    let e = ap (λ (x : Block). signalling_text zs x.index) b.ensures ∙ signalling-value a.image.now zs
    ∙ ap (field_value a.image.now zs) (sym t.if-field-eq-SIGNALLING_FIELD.true) in
    same_text e (wider curve_width (omega arith) p.put_signalling.ensures)

returns-2 : tie.Need-returns-then-field-eq-CURVE_A_FIELD
returns-2 c =
    let p = c in
    let b = p.block_of-then-field-eq-CURVE_A_FIELD in
    let t = c in
    let a = t.args in
    let zs = a.numbers.now in
    let e = ap (λ (x : Block). curve_text zs x.index) b.ensures ∙ curve_a_value a.image.now zs
    ∙ ap (field_value a.image.now zs) (sym t.if-field-eq-CURVE_A_FIELD.true) in
    same_text e (wider curve_width (omega arith) p.put_curve.ensures)

returns-3 : tie.Need-returns-then-field-eq-CURVE_B_FIELD
returns-3 c =
    let p = c in
    let b = p.block_of-then-field-eq-CURVE_B_FIELD in
    let t = c in
    let a = t.args in
    let zs = a.numbers.now in
    let e = ap (λ (x : Block). curve_text zs x.index) b.ensures ∙ curve_b_value a.image.now zs
    ∙ ap (field_value a.image.now zs) (sym t.if-field-eq-CURVE_B_FIELD.true) in
    same_text e (wider curve_width (omega arith) p.put_curve-then-field-eq-CURVE_B_FIELD.ensures)

returns-4 : tie.Need-returns-then-field-eq-WORD_FIELD
returns-4 c =
    let p = c in
    let t = c in
    let a = t.args in
    let zs = a.numbers.now in
    let e = word_value a.image.now zs ∙ ap (field_value a.image.now zs) (sym t.if-field-eq-WORD_FIELD.true) in
    same_text e p.put_word.ensures

returns-5 : tie.Need-returns
returns-5 c =
    let p = c in
    let g = c in
    let f = c in
    let t = c in
    let start = c in
    let a = start.args in
    let zs = a.numbers.now in
    let e =
    one_number a.image.now zs a.field start.requires.1 start.requires.2 t.if-field-eq-SIGNALLING_FIELD.false t.if-field-eq-CURVE_A_FIELD.false
    t.if-field-eq-CURVE_B_FIELD.false t.if-field-eq-WORD_FIELD.false f.field_row.ensures in
    same_text e (wider curve_width (omega arith) (looked (number_text (named a.field)) g.given.type_inv g.given.ensures p.put_setting.ensures))

pub put_value_spec : {M : Type 1} → statement M
put_value_spec =
    tie.close
    (tie.spec
    (λ c κs. search rules)
    put-signalling-requires
    (λ c. search rules)
    returns
    (λ c κs. search rules)
    put-curve-requires
    (λ c. search rules)
    returns-2
    (λ c κs. search rules)
    put-curve-requires-2
    (λ c. search rules)
    returns-3
    (λ c κs. search rules)
    (λ c. search rules)
    returns-4
    (λ c κs. search rules)
    (λ c κs. search rules)
    (λ c κs. search rules)
    (λ c. search rules)
    returns-5)
