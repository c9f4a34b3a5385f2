-- the part appended is the number's digits
use Rattle.std.proofs.Common.{arith}
use Rattle.text.proofs.DigitBytes.{held, digits_part}
use Rattle.text.proofs.number.decimal.Goals as goal

pub slice_bounds-append-count : goal.slice_bounds-append-count
slice_bounds-append-count c =
    let k = held c.args.n c.ranges.n.fits c.decimal_digits-d.result c.decimal_digits-d.ensures.answer in
    omega (arith, k.inside, k.long)

pub slice_bounds-append-start : goal.slice_bounds-append-start
slice_bounds-append-start c =
    let k = held c.args.n c.ranges.n.fits c.decimal_digits-d.result c.decimal_digits-d.ensures.answer in
    omega (arith, k.inside, k.long)

pub returns-clause-answer : goal.returns-clause-answer
returns-clause-answer c =
    let k = held c.args.n c.ranges.n.fits c.decimal_digits-d.result c.decimal_digits-d.ensures.answer in
    rw (digits_part k) at (rw (k.long) at c.append.ensures.answer)

pub returns-clause-memory : goal.returns-clause-memory
returns-clause-memory c =
    let k = held c.args.n c.ranges.n.fits c.decimal_digits-d.result c.decimal_digits-d.ensures.answer in
    rw (digits_part k) at (rw (k.long) at c.append.ensures.memory)
