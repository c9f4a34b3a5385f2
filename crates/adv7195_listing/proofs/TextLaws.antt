-- Laws of the text of an image: every setting has its mark, any text has room, and which text it is by what reading answers. Assumes nothing.
use mathlib.Core.Path.{◌≡◌, refl, sym, ap, ◌∙◌}
use mathlib.Core.List.{List, [], ◌∷◌}
use Prim.Native.Nat.{ℕ, ◌+◌, ◌≤◌, ◌<◌}
use native.Mathlib.Omega.{arith}
use lib.IntN.{ℤ}
use lib.ListN.{length, length-append}
use borrow.Author.Tests.{leb-true}
use Rattle.text.proofs.Numerals.{decimal-most}
use Rattle.listing.specs.Lines.{counts_line, refused_line}
use Rattle.refusals.specs.Verdict.{good, refused_at, left_by}
use Rattle.template.specs.Template.{taken, filled, widths}
use Rattle.adv7195_settings.specs.Numbers.{number_count}
use Rattle.adv7195_settings.specs.Reading.{read_of, read_left}
use Rattle.adv7195_listing.specs.Lines.{lines, template}
use Rattle.adv7195_listing.specs.Listing.{text_by, settings_text, text_width}
use Rattle.adv7195_settings.specs.Rows.{settings_held}

-- how many numbers a template takes
abbrev marks : List ℕ → ℕ
marks [] = 0
marks (b ∷ bs) = taken b + marks bs

-- each number of the settings has its mark
each_marked : marks template ≡ number_count
unfolding lines
each_marked = refl

-- the lines have room
pub lines-room : widths template ≤ text_width
unfolding widths lines
lines-room = leb-true (widths template) text_width refl

-- and so has the line of a refusal
pub refusal-room : (n f : ℕ) → n < 1000 → f < 1000 → length (refused_line n f) ≤ text_width
unfolding counts_line
refusal-room n f h k = simp length-append (omega (arith, decimal-most 2 n h, decimal-most 2 f k))

module _ (image : List ℕ) (zs : List ℤ) (l : length zs ≡ number_count) where
  -- settings that were read
  pub text_read : {left : List ℤ} → good tt ≡ read_of image (length zs) → left ≡ read_left image zs → filled template left ≡ settings_text image
  unfolding settings_text
  text_read e m =
      ap (filled template) (m ∙ ap (left_by zs (settings_held image)) (sym e)) ∙ ap (text_by image) e ∙ ap (λ (n : ℕ). text_by image (read_of image n)) l

  -- a refusal
  pub text_refused : (n f : ℕ) → refused_at n f ≡ read_of image (length zs) → refused_line n f ≡ settings_text image
  unfolding settings_text
  text_refused n f e = ap (text_by image) e ∙ ap (λ (k : ℕ). text_by image (read_of image k)) l
