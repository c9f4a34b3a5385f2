-- Laws of templates: what each kind of byte stands for, a text and its width from a place on, and a byte among the numbers. Assumes nothing.
use mathlib.Core.Path.{◌≡◌, sym, ap, ap₂, ◌∙◌}
use mathlib.Core.Bool.{Bool, cond}
use mathlib.Core.List.{List, [], ◌∷◌, ◌++◌, append_assoc, append-nil}
use Prim.Native.Nat.{ℕ, ◌+◌, ◌<◌}
use native.Mathlib.Nat.{add-zero}
use native.Mathlib.Numerals.{add-one}
use native.Mathlib.Omega.{arith}
use lib.IntN.{ℤ, pos}
use lib.ListN.{length, get_or, drop}
use lib.Seq.{drop-cons, drop-drop, drop-length, get_or-drop}
use mir.Syntax.{w32}
use mir.Val.{to_z}
use mir.ValLaws.{to_z_pos}
use borrow.Author.Tests.{eq-eqb, ne_eqb, lt-ltb}
use Rattle.text.specs.Text.{signed, hex_byte}
use Rattle.writing.specs.Put.{number_width}
use Rattle.writing.specs.Codes.{code}
use Rattle.template.specs.Template.{decimal_mark, byte_mark, is_mark, stands_for, taken, filled, width, widths}

-- ---- a byte of a template

module _ (b : ℕ) (z : ℤ) where
  -- the mark of a number in decimal
  pub decimal_part : b ≡ decimal_mark → (width b ≡ number_width) × (signed z ≡ stands_for b z)
  unfolding stands_for
  decimal_part e = let t = eq-eqb b decimal_mark e in (rw t, rw t)

  -- the mark of a byte
  pub byte_part : (b ≡ decimal_mark → ⊥) → b ≡ byte_mark → (width b ≡ number_width) × (code z ≡ stands_for b z)
  unfolding stands_for
  byte_part n e = let f = ne_eqb b decimal_mark n in let t = eq-eqb b byte_mark e in (rw (f, t), rw (f, t))

  -- any other
  pub plain_part : (b ≡ decimal_mark → ⊥) → (b ≡ byte_mark → ⊥) → (width b ≡ 1) × (b ∷ [] ≡ stands_for b z)
  unfolding stands_for
  plain_part n m = let f = ne_eqb b decimal_mark n in let g = ne_eqb b byte_mark m in (rw (f, g), rw (f, g))

-- how many numbers a byte takes
pub takes : (b : ℕ) {m : Bool} → is_mark b ≡ m → taken b ≡ cond m 1 0
takes b e = rw e

-- ---- a template from a place on

module _ (template : List ℕ) (i : ℕ) (h : i < length template) where
  -- its first byte and the rest
  split : drop i template ≡ get_or template i 0 ∷ drop (i + 1) template
  split = drop-cons template i 0 h ∙ ap (λ (k : ℕ). get_or template i 0 ∷ drop k template) (sym (add-one i))

  -- its width
  pub widths_from : widths (drop i template) ≡ width (get_or template i 0) + widths (drop (i + 1) template)
  unfolding widths
  widths_from = ap widths split

  -- its text, from number k on
  pub filled_from : (zs : List ℤ) (k : ℕ) → filled (drop i template) (drop k zs)
      ≡ stands_for (get_or template i 0) (get_or zs k (pos 0)) ++ filled (drop (i + 1) template) (drop (k + taken (get_or template i 0)) zs)
  unfolding filled
  filled_from zs k =
      let b = get_or template i 0 in
      let first : get_or (drop k zs) 0 (pos 0) ≡ get_or zs k (pos 0) = get_or-drop k zs 0 (pos 0) ∙ ap (λ (j : ℕ). get_or zs j (pos 0)) (add-zero k) in
      ap (λ (t : List ℕ). filled t (drop k zs)) split
      ∙ ap₂ (λ (z : ℤ) (ys : List ℤ). stands_for b z ++ filled (drop (i + 1) template) ys) first (drop-drop (taken b) k zs)

  -- a text written so far, and what its byte stands for after it
  pub filled_more : (zs : List ℤ) (k : ℕ) (text : List ℕ) {whole : List ℕ} → text ++ filled (drop i template) (drop k zs) ≡ whole
      → (text ++ stands_for (get_or template i 0) (get_or zs k (pos 0))) ++ filled (drop (i + 1) template) (drop (k + taken (get_or template i 0)) zs)
      ≡ whole
  filled_more zs k text e =
      let b = get_or template i 0 in
      append_assoc text (stands_for b (get_or zs k (pos 0))) (filled (drop (i + 1) template) (drop (k + taken b) zs))
      ∙ ap (λ (t : List ℕ). text ++ t) (sym (filled_from zs k))
      ∙ e

-- at the template's end the text is whole
pub filled-whole : (template : List ℕ) (ys : List ℤ) (i : ℕ) (text : List ℕ) {whole : List ℕ} → i ≡ length template
    → text ++ filled (drop i template) ys ≡ whole → text ≡ whole
unfolding filled
filled-whole template ys i text h e =
    let none : drop i template ≡ [] = ap (λ (k : ℕ). drop k template) h ∙ drop-length template in
    sym (append-nil text) ∙ ap (λ (t : List ℕ). text ++ filled t ys) (sym none) ∙ e

-- ---- a byte among the numbers

-- as the machine hands it over
pub byte-number : (b : ℕ) → b < 256 → to_z w32 b ≡ pos b
byte-number b h = to_z_pos w32 b (omega arith)

-- as it is shown
pub byte-code : (b : ℕ) → b < 256 → code (pos b) ≡ hex_byte b
unfolding code
byte-code b h = rw (lt-ltb b 256 h)
