-- A turn writes the last digit of what is left before those written.
use mathlib.Core.Path.{◌≡◌, refl, sym, ap, ap₂, ◌∙◌}
use mathlib.Core.List.{List, [], ◌∷◌, ◌++◌, append_assoc}
use Prim.Native.Nat.{ℕ, ◌-◌, ◌/◌, ◌%◌, ◌^◌, ◌<◌}
use native.Mathlib.Omega.{arith}
use lib.ListN.{length, take, drop, set, length-set, length-drop, take-append-drop}
use lib.Seq.{take-set-le, take-take}
use Rattle.text.specs.Line.{zeros}
use Rattle.text.specs.Text.{decimal, leading, digit}
use Rattle.text.specs.DecimalDigits.{decimal_digits}
use Rattle.text.proofs.Zeros.{take-zeros}
use Rattle.text.proofs.DigitLists.{leading_step, leading-zero, one-before, shorter}
use Rattle.text.proofs.number.decimal_digits.Invariants.{Written}
use Rattle.text.proofs.number.decimal_digits.Goals as goal

pub loop-rest-init : goal.loop-rest-init
unfolding decimal
loop-rest-init c = record { long = refl; free = omega arith; some = omega arith; less = omega arith; short = omega arith; clear = refl; text = refl }

turn : (n : ℕ) (bytes : List ℕ) (first rest : ℕ) → 0 < rest → Written n bytes first rest
    → Written n (set bytes (first - 1) (digit (rest % 10))) (first - 1) (rest / 10)
turn n bytes first rest p v =
    let room : (0 < first - 1) × (rest / 10 < 10 ^ (first - 1 - 1)) = shorter (first - 1) rest p v.short in
    record {
      long = length-set bytes (first - 1) _ ∙ v.long;
      free = room.0;
      some = omega arith;
      less = omega arith;
      short = room.1;
      clear =
          take-set-le (first - 1) bytes (first - 1) (digit (rest % 10)) (omega arith)
          ∙ sym (take-take (first - 1) first bytes (omega arith))
          ∙ ap (take (first - 1)) v.clear
          ∙ take-zeros (first - 1) first (omega arith);
      text =
          ap (λ (r : List ℕ). leading n (rest / 10) ++ r) (one-before bytes first (digit (rest % 10)) v.free (omega arith))
          ∙ sym (append_assoc (leading n (rest / 10)) (digit (rest % 10) ∷ []) (drop first bytes))
          ∙ ap (λ (t : List ℕ). t ++ drop first bytes) (sym (leading_step n rest p v.less))
          ∙ v.text;
    }

pub loop-rest-preserved : goal.loop-rest-preserved
loop-rest-preserved c = let l = c.loop-rest in turn c.args.n l.bytes l.first l.rest (omega arith) l.invariant

pub returns : goal.returns
unfolding decimal_digits
returns c =
    let l = c.loop-rest in
    let n = c.args.n in
    let none : l.rest ≡ 0 = omega arith in
    let text : drop l.first l.bytes ≡ decimal n =
    ap (λ (t : List ℕ). t ++ drop l.first l.bytes) (sym (ap (leading n) none ∙ leading-zero n)) ∙ l.invariant.text in
    let first : l.first ≡ 21 - length (decimal n) = omega (arith, ap length text, length-drop l.first l.bytes, l.invariant.long, l.invariant.some) in
    let bytes : l.bytes ≡ zeros l.first ++ decimal n = sym (take-append-drop l.first l.bytes) ∙ ap₂ (λ (a b : List ℕ). a ++ b) l.invariant.clear text in
    record {
      answer = ap₂ (λ (b : List ℕ) (f : ℕ). record { bytes = b; first = f }) (bytes ∙ ap (λ (k : ℕ). zeros k ++ decimal n) first) first;
    }
