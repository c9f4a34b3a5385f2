-- The bytes that hold a number's decimal digits: the part with the digits, and with a sign before them. Assumes nothing.
use mathlib.Core.Path.{◌≡◌, sym, ap, ◌∙◌}
use mathlib.Core.List.{List, ◌∷◌, ◌++◌}
use Prim.Native.Nat.{ℕ, ◌-◌, ◌^◌, ◌<◌}
use native.Mathlib.Omega.{arith}
use lib.ListN.{length, take, drop, set, length-append}
use lib.Seq.{take_all, drop_at}
use Rattle.text.specs.declared.number.Digits.{Digits}
use Rattle.text.specs.Line.{zeros}
use Rattle.text.specs.Text.{decimal}
use Rattle.text.specs.DecimalDigits.{width, first_digit, decimal_digits}
use Rattle.text.proofs.Zeros.{length-zeros}
use Rattle.text.proofs.DigitLists.{one-before}
use Rattle.text.proofs.Numerals.{decimal-some, decimal-most}

-- what is held: a byte free before the digits, the digits within the bytes
pub record Held (n : ℕ) (d : Digits) : Type 0 where
  pub free : 0 < d.first
  pub inside : d.first < width
  pub long : length d.bytes ≡ width
  pub count : length (decimal n) ≡ width - d.first
  pub digits : drop d.first d.bytes ≡ decimal n

pub held : (n : ℕ) → n < 2 ^ 64 → (d : Digits) → d ≡ decimal_digits n → Held n d
unfolding decimal_digits
held n h d e =
    let first : d.first ≡ first_digit n = ap (λ (x : Digits). x.first) e in
    let bytes : d.bytes ≡ zeros (first_digit n) ++ decimal n = ap (λ (x : Digits). x.bytes) e in
    let most = decimal-most 19 n (omega arith) in
    let some = decimal-some n in
    record {
      free = omega arith;
      inside = omega arith;
      long = omega (arith, ap length bytes, length-append (zeros (first_digit n)) (decimal n), length-zeros (first_digit n));
      count = omega arith;
      digits = ap (drop d.first) bytes ∙ drop_at (zeros (first_digit n)) (decimal n) d.first (length-zeros (first_digit n) ∙ sym first);
    }

module _ {n : ℕ} {d : Digits} (k : Held n d) where
  -- the part of the bytes that holds the digits
  pub digits_part : take (width - d.first) (drop d.first d.bytes) ≡ decimal n
  digits_part = ap (λ (t : List ℕ). take (width - d.first) t) k.digits ∙ take_all (width - d.first) (decimal n) (omega (arith, k.count))

  -- the part that holds a sign before them
  pub signed_part : (s : ℕ) → take (width - (d.first - 1)) (drop (d.first - 1) (set d.bytes (d.first - 1) s)) ≡ s ∷ decimal n
  signed_part s =
      let b = one-before d.bytes d.first s k.free (omega (arith, k.inside, k.long)) in
      ap (λ (t : List ℕ). take (width - (d.first - 1)) t) (b ∙ ap (λ (t : List ℕ). s ∷ t) k.digits)
      ∙ take_all (width - (d.first - 1)) (s ∷ decimal n) (omega (arith, k.count, k.free, k.inside))
