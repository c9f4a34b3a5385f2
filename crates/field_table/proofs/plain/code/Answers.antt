-- A setting outside the range is refused, and one inside it is a code of the row's bits.
use Rattle.std.proofs.Common.{◌≡◌, true, false, ap, ◌∙◌, w32, arith}
use Rattle.std.proofs.lemmas.Int.{ints, to_z-of_z}
use Rattle.refusals.specs.Refusal.{accepted}
use Rattle.field_table.specs.Coding.{outside}
use Rattle.field_table.proofs.PlainLaws.{row_fits_lem, small, byte, code_out, code_in}
use Rattle.field_table.proofs.plain.code.Goals as goal

pub returns-then-outside : goal.returns-then-outside
returns-then-outside c =
    let judged : outside c.args.row c.args.setting ≡ true = grind (arith, ints) in
    record { answer = code_out c.args.row c.args.setting _ judged (rw (to_z-of_z w32 c.args.setting c.ranges.setting) at c.refusal.ensures.answer) }

pub overflow_cast-result : goal.overflow_cast-result
overflow_cast-result c =
    let r = c.args.row in
    let fits = row_fits_lem r c.requires in
    let judged : outside r c.args.setting ≡ false = grind (arith, ints) in
    let code = small r fits c.args.setting judged in
    rw (to_z-of_z w32 c.args.setting c.ranges.setting) (code.0, record { fits = omega (arith, code.1, byte r fits) })

pub returns : goal.returns
returns c =
    let judged : outside c.args.row c.args.setting ≡ false = grind (arith, ints) in
    record { answer = ap accepted (grind (arith, ints)) ∙ code_in c.args.row c.args.setting judged }
