-- `differences::registers_differing`: a turn adds the bit of what differs, and the last leaves the whole map.
use Rattle.std.proofs.Common.{◌<◌, sym, ◌∙◌, arith}
use Rattle.adv7194_compare.proofs.DifferenceLaws.{bit-fits, with-bit, without-bit, all_gathered, registers-map}
use Rattle.adv7194_compare.proofs.differences.registers_differing.Goals as goal
use Rattle.adv7194_compare.proofs.differences.registers_differing.Goals.{then-register_differs, else-register_differs}

pub overflow_add-map : goal.overflow_add-map
overflow_add-map c = record { fits = bit-fits c.loop-register.invariant (omega arith) c.register_differs.ensures.answer 64 (omega arith) c.if-register_differs.true }

pub loop-register-preserved : goal.loop-register-preserved
loop-register-preserved c =
    let h : c.loop-register.register < 54 = omega arith in
    elim c.if-register_differs.branch [
      | then-register_differs w ↦ with-bit c.loop-register.invariant h c.register_differs.ensures.answer 64 (omega arith) w.if-register_differs.true w.map-is
      | else-register_differs w ↦ without-bit c.loop-register.invariant h c.register_differs.ensures.answer w.if-register_differs.false w.map-is
    ]

pub returns : goal.returns
returns c = record { answer = all_gathered c.loop-register.invariant (omega arith) ∙ sym (registers-map _ _) }
