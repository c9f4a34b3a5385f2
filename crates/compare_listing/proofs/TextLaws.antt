-- The text of two images by what reading answers of each. Assumes nothing.
use mathlib.Core.Path.{◌≡◌, refl}
use mathlib.Core.Bool.{Bool, true, false, cond, ◌&&◌}
use mathlib.Core.List.{List}
use Prim.Native.Nat.{ℕ}
use lib.IntN.{ℤ}
use Rattle.adv7194_settings.specs.Held.{settings_held}
use Rattle.adv7194_compare.specs.Compare.{can_be_read}
use Rattle.compare_fields.specs.FieldLines.{field_line}
use Rattle.compare_listing.specs.CompareText.{side_text}

module _ (a b : List ℕ) where
  -- raw codes don't depend on numbers
  left_numbers : (y z : List ℤ) (u v : Bool)
      → side_text (u && v) a b (cond u (settings_held a) y) (cond v (settings_held b) z) ≡ side_text (u && v) a b (settings_held a) (settings_held b)
  unfolding side_text field_line
  left_numbers y z true true = refl
  left_numbers y z true false = refl
  left_numbers y z false v = refl

  pub by_reading : (y z : List ℤ) {s t u : Bool} {x x' : List ℤ} → u ≡ (s && t) → s ≡ can_be_read a → t ≡ can_be_read b
      → x ≡ cond (can_be_read a) (settings_held a) y → x' ≡ cond (can_be_read b) (settings_held b) z
      → side_text u a b x x' ≡ side_text (can_be_read a && can_be_read b) a b (settings_held a) (settings_held b)
  by_reading y z {s} {t} {u} {x} {x'} e f g h k = rw (e, f, g, h, k) (left_numbers y z (can_be_read a) (can_be_read b))
