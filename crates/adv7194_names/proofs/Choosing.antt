-- Laws of settings' text by the number that stands in them: the machine's tests of a number, and the word that a test chooses. Assumes nothing.
use mathlib.Core.Path.{◌≡◌, refl, sym, ap, ◌∙◌}
use mathlib.Core.Bool.{true, false}
use mathlib.Core.List.{List, [], ◌∷◌, ◌++◌}
use Prim.Native.Nat.{ℕ, ◌^◌, ◌≤◌, ◌<◌}
use native.Mathlib.Omega.{arith}
use lib.IntN.{ℤ, pos, negsuc}
use lib.ListN.{length}
use lib.Signed.{mag}
use mir.Syntax.{w32}
use mir.Val.{SFits, to_z, of_z}
use mir.ValLaws.{to_z-of_z}
use borrow.Author.Tests.{eq-eqb, ne_eqb}
use Rattle.text.specs.Text.{signed}
use Rattle.field_table.specs.Blocks.{is}
use Rattle.writing.specs.Ascii.{ascii}
use Rattle.adv7194_names.specs.Names.{Named}
use Rattle.adv7194_names.specs.Columns.{column_of}
use Rattle.adv7194_names.specs.Values.{word_of, or_else, number_text, yes_no}

-- a number whose machine word is k is k
pub is_it : (k : ℕ) (z : ℤ) → SFits w32 z → to_z w32 k ≡ pos k → of_z w32 z ≡ k → is k z ≡ true
is_it k z h e t = ap (is k) (sym (to_z-of_z w32 z h) ∙ ap (to_z w32) t ∙ e) ∙ eq-eqb k k refl

-- the number itself
pub number_is : (k : ℕ) (z : ℤ) → mag z < 2 ^ 31 → to_z w32 k ≡ pos k → of_z w32 z ≡ k → z ≡ pos k
number_is k z h e t = sym (to_z-of_z w32 z (record { sfits = h })) ∙ ap (to_z w32) t ∙ e

-- one whose machine word is not is another number
pub is_not : (k : ℕ) (z : ℤ) → of_z w32 (pos k) ≡ k → (of_z w32 z ≡ k → ⊥) → is k z ≡ false
is_not k (pos n) e t = ne_eqb n k (λ q. t (ap (λ (m : ℕ). of_z w32 (pos m)) q ∙ e))
is_not k (negsuc n) e t = refl

-- ---- a setting of one number

module _ (w : Named) (n : ℤ) where
  -- the word of 0
  pub word-zero : is 0 n ≡ true → column_of w 1 ≡ word_of w n
  unfolding column_of word_of
  word-zero e = rw e

  -- the word of 1
  pub word-one : is 0 n ≡ false → is 1 n ≡ true → column_of w 2 ≡ word_of w n
  unfolding column_of word_of
  word-one e f = rw (e, f)

  -- any other number has none
  pub word_none : is 0 n ≡ false → is 1 n ≡ false → [] ≡ word_of w n
  unfolding word_of
  word_none e f = rw (e, f)

-- the columns of the name and of the unit
pub name-is : (w : Named) → column_of w 0 ≡ ascii w.name
unfolding column_of
name-is w = refl

pub unit-is : (w : Named) → column_of w 3 ≡ ascii w.unit
unfolding column_of
unit-is w = refl

or_first : (a b : List ℕ) → 0 < length a → a ≡ or_else a b
or_first [] b h = absurd (omega arith)
or_first (x ∷ a) b h = refl

or_second : (a b : List ℕ) → length a ≤ 0 → b ≡ or_else a b
or_second [] b h = refl
or_second (x ∷ a) b h = absurd (omega arith)

module _ (w : Named) (n : ℤ) where
  -- a setting that has a word is written so
  pub setting_word : 0 < length (word_of w n) → word_of w n ≡ number_text w n
  unfolding number_text
  setting_word h = or_first (word_of w n) (signed n ++ ascii w.unit) h

  -- any other as a number with its unit
  pub setting_amount : length (word_of w n) ≤ 0 → signed n ++ ascii w.unit ≡ number_text w n
  unfolding number_text
  setting_amount h = or_second (word_of w n) (signed n ++ ascii w.unit) h

-- ---- a yes/no

module _ (n : ℤ) where
  -- no is 0
  pub yes_zero : is 0 n ≡ true → ascii "no" ≡ yes_no n
  unfolding yes_no
  yes_zero e = rw e

  -- yes is 1
  pub yes_one : is 0 n ≡ false → is 1 n ≡ true → ascii "yes" ≡ yes_no n
  unfolding yes_no
  yes_one e f = rw (e, f)

  -- any other number is written in decimal
  pub yes_other : is 0 n ≡ false → is 1 n ≡ false → signed n ≡ yes_no n
  unfolding yes_no
  yes_other e f = rw (e, f)
