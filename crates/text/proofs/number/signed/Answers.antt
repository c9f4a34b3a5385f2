-- The part appended is the digits of the magnitude, with the sign before them where the number is negative.
use Rattle.std.proofs.Common.{◌≡◌, ◌∙◌, ◌^◌, ◌<◌, ap, ℕ, ℤ, w32, arith}
use Rattle.std.proofs.Math.IntN.{nat_abs}
use Rattle.std.proofs.lemmas.Int.{to_z-of_z}
use Rattle.text.specs.Line.{place_after, appended}
use Rattle.text.specs.Text.{decimal}
use Rattle.text.specs.declared.number.Digits.{Digits}
use Rattle.text.specs.DecimalDigits.{decimal_digits}
use Rattle.text.proofs.DigitBytes.{Held, held, signed_part}
use Rattle.text.proofs.Signs.{signed-negative, signed_positive}
use Rattle.text.proofs.number.signed.Goals as goal

-- the digits of a magnitude, and where they stand
digits : (n : ℤ) (m k : ℕ) (d : Digits) → k < 2 ^ 64 → k ≡ m → m ≡ nat_abs n → d ≡ decimal_digits k → Held (nat_abs n) d
digits n m k d h f e g = let s = f ∙ e in held (nat_abs n) (rw s at h) d (g ∙ ap decimal_digits s)

pub overflow_sub-sign : goal.overflow_sub-sign
overflow_sub-sign c =
    let u = rw (to_z-of_z w32 c.args.n c.ranges.n) at c.unsigned_abs.ensures.value in
    let k = digits c.args.n c.unsigned_abs.result c.from.result c.decimal_digits-d.result c.from.type_inv c.from.ensures u c.decimal_digits-d.ensures.answer in
    omega (arith, k.free)

pub bounds-bytes-sign : goal.bounds-bytes-sign
bounds-bytes-sign c =
    let u = rw (to_z-of_z w32 c.args.n c.ranges.n) at c.unsigned_abs.ensures.value in
    let k = digits c.args.n c.unsigned_abs.result c.from.result c.decimal_digits-d.result c.from.type_inv c.from.ensures u c.decimal_digits-d.ensures.answer in
    omega (arith, k.inside)

pub slice_bounds-append-count : goal.slice_bounds-append-count
slice_bounds-append-count c =
    let u = rw (to_z-of_z w32 c.args.n c.ranges.n) at c.unsigned_abs.ensures.value in
    let k = digits c.args.n c.unsigned_abs.result c.from.result c.decimal_digits-d.result c.from.type_inv c.from.ensures u c.decimal_digits-d.ensures.answer in
    omega (arith, k.inside)

pub slice_bounds-append-start : goal.slice_bounds-append-start
slice_bounds-append-start c =
    let u = rw (to_z-of_z w32 c.args.n c.ranges.n) at c.unsigned_abs.ensures.value in
    let k = digits c.args.n c.unsigned_abs.result c.from.result c.decimal_digits-d.result c.from.type_inv c.from.ensures u c.decimal_digits-d.ensures.answer in
    omega (arith, k.inside)

pub returns-then-n-lt0 : goal.returns-then-n-lt0
returns-then-n-lt0 c =
    let a = c.args in
    let u = rw (to_z-of_z w32 a.n c.ranges.n) at c.unsigned_abs.ensures.value in
    let k = digits a.n c.unsigned_abs.result c.from.result c.decimal_digits-d.result c.from.type_inv c.from.ensures u c.decimal_digits-d.ensures.answer in
    let e = signed_part k 45 ∙ signed-negative a.n (rw (to_z-of_z w32 a.n c.ranges.n) at c.if-n-lt0.true) in
    record {
      answer = c.append.ensures.answer ∙ ap (place_after a.line.now a.at) e;
      memory = c.append.ensures.memory ∙ ap (appended a.line.now a.at) e;
    }

pub returns : goal.returns
returns c =
    let a = c.args in
    let same = to_z-of_z w32 a.n c.ranges.n in
    let e = ap (λ z. decimal (nat_abs z)) same ∙ signed_positive a.n (rw same at c.if-n-lt0.false) in
    record {
      answer = c.decimal.ensures.answer ∙ ap (place_after a.line.now a.at) e;
      memory = c.decimal.ensures.memory ∙ ap (appended a.line.now a.at) e;
    }
