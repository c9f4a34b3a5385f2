-- `differences::fields_differing`: a turn adds the bit of what differs, and the last leaves the whole map.
use Rattle.std.proofs.Common.{◌<◌, sym, ◌∙◌, arith}
use Rattle.adv7194_compare.proofs.DifferenceLaws.{bit-fits, with-bit, without-bit, all_gathered, fields_map}
use Rattle.adv7194_compare.proofs.differences.fields_differing.Goals as goal
use Rattle.adv7194_compare.proofs.differences.fields_differing.Goals.{then-field_differs, else-field_differs}

pub overflow_add-map : goal.overflow_add-map
overflow_add-map c = record { fits = bit-fits c.loop-field.invariant (omega arith) c.field_differs.ensures.answer 32 (omega arith) c.if-field_differs.true }

pub loop-field-preserved : goal.loop-field-preserved
loop-field-preserved c =
    let h : c.loop-field.field < 29 = omega arith in
    elim c.if-field_differs.branch [
      | then-field_differs w ↦ with-bit c.loop-field.invariant h c.field_differs.ensures.answer 32 (omega arith) w.if-field_differs.true w.map-is
      | else-field_differs w ↦ without-bit c.loop-field.invariant h c.field_differs.ensures.answer w.if-field_differs.false w.map-is
    ]

pub returns : goal.returns
returns c = record { answer = all_gathered c.loop-field.invariant (omega arith) ∙ sym (fields_map _ _) }
