-- The word and the two numbers in a row are the line.
use Rattle.std.proofs.Common.{◌≡◌, ◌∙◌, ◌+◌, ◌-◌, ◌≤◌, ◌++◌, ap, ap₂, ℕ, List, length, drop, length-append, append_assoc, arith}
use Rattle.std.proofs.Math.Nat.{zero-add}
use Rattle.text.specs.Line.{zeros, appended}
use Rattle.text.specs.Text.{decimal, space, line_end}
use Rattle.text.proofs.Appending.{Written, kept, next, fitting}
use Rattle.text.proofs.Numerals.{decimal-most}
use Rattle.text.proofs.Zeros.{length-zeros, drop-zeros}
use Rattle.listing.specs.Lines.{counts_line}
use Rattle.listing.specs.Written.{line_width, line_of}
use Rattle.listing.proofs.counts_line.Goals as goal

-- the line's texts as they are written
regroup : (word : List ℕ) (a b : ℕ) → word ++ (decimal a ++ space) ++ (decimal b ++ line_end) ≡ counts_line word a b
unfolding counts_line
regroup word a b = simp append_assoc

-- a text written at the front of zeros is the line's
front : (text after : List ℕ) (place : ℕ) → Written (zeros line_width) 0 text after place → ◌≡◌ (record { bytes = after; length = place }) (line_of text)
unfolding line_of
front text after place w =
    let short : length text ≤ line_width = omega (arith, w.fit, length-zeros line_width) in
    let bytes : after ≡ text ++ zeros (line_width - length text) =
    w.memory ∙ fitting (zeros line_width) 0 text w.fit ∙ ap (λ (k : ℕ). text ++ drop k (zeros line_width)) (zero-add (length text))
    ∙ ap (λ (r : List ℕ). text ++ r) (drop-zeros (length text) line_width short) in
    let place' : place ≡ length text = omega (arith, w.here) in
    ap₂ (λ (b : List ℕ) (n : ℕ). record { bytes = b; length = n }) bytes place'

-- the word and the first number are written
module _ (word line₁ line₂ : List ℕ) (a place₁ place₂ : ℕ) (few : length word ≤ 8) (small : length (decimal a) ≤ 20)
    (here₁ : place₁ ≡ 0 + length word) (memory₁ : line₁ ≡ appended (zeros line_width) 0 word) where
  word_written : Written (zeros line_width) 0 word line₁ place₁
  word_written = record { fit = omega (arith, few, length-zeros line_width); memory = memory₁; here = here₁ }

  first_written : place₂ ≡ place₁ + length (decimal a) + 1 → line₂ ≡ appended line₁ place₁ (decimal a ++ space)
      → Written (zeros line_width) 0 (word ++ (decimal a ++ space)) line₂ place₂
  first_written here₂ memory₂ =
      let long = length-append (decimal a) space in
      next word_written (decimal a ++ space) (omega (arith, small, few, here₁, length-zeros line_width)) memory₂ (omega (arith, here₂))

pub put_number-second-requires : goal.put_number-second-requires
put_number-second-requires c =
    let a = c.args in
    let few = decimal-most 19 a.a (omega arith) in
    let w =
    word_written a.word.now c.put-first.new.line c.put-first.new.line a.a c.put-first.result 0 c.requires few c.put-first.ensures.answer c.put-first.ensures.memory in
    omega (arith, few, c.requires, w.here, kept w, length-zeros line_width)

pub put_number-length-requires : goal.put_number-length-requires
put_number-length-requires c =
    let a = c.args in
    let few = decimal-most 19 a.a (omega arith) in
    let second = decimal-most 19 a.b (omega arith) in
    let p = c.put-first in
    let s = c.put_number-second in
    let w =
    first_written a.word.now p.new.line s.new.line a.a p.result s.result c.requires few p.ensures.answer p.ensures.memory s.ensures.answer s.ensures.memory in
    omega (arith, few, second, c.requires, p.ensures.answer, s.ensures.answer, kept w, length-zeros line_width)

pub returns : goal.returns
returns c =
    let a = c.args in
    let few = decimal-most 19 a.a (omega arith) in
    let second = decimal-most 19 a.b (omega arith) in
    let p = c.put-first in
    let s = c.put_number-second in
    let w =
    first_written a.word.now p.new.line s.new.line a.a p.result s.result c.requires few p.ensures.answer p.ensures.memory s.ensures.answer s.ensures.memory in
    let more = decimal a.b ++ line_end in
    let after : c.put_number-length.result ≡ s.result + length more =
    omega (arith, c.put_number-length.ensures.answer, length-append (decimal a.b) line_end) in
    let room : s.result + length more ≤ length (zeros line_width) =
    omega (arith, few, second, c.requires, p.ensures.answer, s.ensures.answer, length-append (decimal a.b) line_end, length-zeros line_width) in
    record { answer = front _ _ _ (next w more room c.put_number-length.ensures.memory after) ∙ ap line_of (regroup a.word.now a.a a.b) }
