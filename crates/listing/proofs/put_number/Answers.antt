-- The digits are written, and then the byte.
use Rattle.std.proofs.Common.{[], ◌∷◌, refl, arith}
use Rattle.text.specs.Text.{decimal}
use Rattle.text.proofs.Appending.{Written, kept, next, settled, stored}
use Rattle.listing.proofs.put_number.Goals as goal

pub bounds-line-next : goal.bounds-line-next
bounds-line-next c =
    let a = c.args in
    let here = settled a.line.now a.at (decimal a.n) (omega arith) c.decimal.ensures.answer c.unwrap_or-next.ensures in
    let w : Written a.line.now a.at (decimal a.n) c.decimal.new.line c.unwrap_or-next.result =
    record { fit = omega arith; memory = c.decimal.ensures.memory; here = here } in
    omega (arith, here, kept w)

pub overflow_add-result : goal.overflow_add-result
overflow_add-result c =
    let here = settled c.args.line.now c.args.at (decimal c.args.n) (omega arith) c.decimal.ensures.answer c.unwrap_or-next.ensures in
    record { fits = omega (arith, here) }

pub returns : goal.returns
returns c =
    let a = c.args in
    let here = settled a.line.now a.at (decimal a.n) (omega arith) c.decimal.ensures.answer c.unwrap_or-next.ensures in
    let w : Written a.line.now a.at (decimal a.n) c.decimal.new.line c.unwrap_or-next.result =
    record { fit = omega arith; memory = c.decimal.ensures.memory; here = here } in
    let more = next w (a.end ∷ []) (omega (arith, here)) (stored c.decimal.new.line c.unwrap_or-next.result a.end (omega (arith, here, kept w))) refl in
    record { answer = omega (arith, here); memory = more.memory }
