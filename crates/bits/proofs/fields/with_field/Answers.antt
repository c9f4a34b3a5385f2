-- What lies above the field, what was set, and what lies below it.
use Rattle.std.proofs.Common.{◌≡◌, ℕ, ◌+◌, ◌-◌, ◌*◌, ◌/◌, ◌%◌, ◌^◌, sym, ap, ◌∙◌, arith}
use native.Mathlib.Nat.{add-mul, mul_assoc, mul_comm}
use lib.Pow.{pow-add, split}
use Rattle.bits.specs.Fields.{with_field}
use Rattle.bits.proofs.FieldLaws.{with-lt}
use Rattle.bits.proofs.fields.with_field.Goals as goal

-- the field's three parts
parts : (k j b v : ℕ) → b - b % 2 ^ (k + j) + v * 2 ^ k + b % 2 ^ k ≡ with_field k j b v
parts k j b v =
    let top = b / 2 ^ (k + j) in
    let cut : b - b % 2 ^ (k + j) ≡ top * 2 ^ (k + j) = omega (arith, split b (k + j)) in
    let size : 2 ^ (k + j) ≡ 2 ^ j * 2 ^ k = pow-add 2 k j ∙ mul_comm (2 ^ k) (2 ^ j) in
    ap (λ (x : ℕ). x + b % 2 ^ k)
    (ap (λ (x : ℕ). x + v * 2 ^ k) (cut ∙ ap (λ (x : ℕ). top * x) size ∙ sym (mul_assoc top (2 ^ j) (2 ^ k))) ∙ sym (add-mul (top * 2 ^ j) v (2 ^ k)))

pub overflow_cast-result : goal.overflow_cast-result
overflow_cast-result c =
    let a = c.args in
    rw (c.low.ensures.answer.0, c.shifted.ensures.answer.0, c.low-2.ensures.answer.0, parts a.place a.width a.b a.v)
    (record { fits = with-lt 8 a.place a.width a.b a.v (omega arith) (omega arith) (omega arith) })

pub returns : goal.returns
returns c =
    let a = c.args in
    record { answer = rw (c.low.ensures.answer.0, c.shifted.ensures.answer.0, c.low-2.ensures.answer.0) (parts a.place a.width a.b a.v) }
