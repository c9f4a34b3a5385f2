-- The text for an input by the count of its bytes. Assumes nothing.
use mathlib.Core.Path.{◌≡◌, refl}
use mathlib.Core.List.{List, [], ◌∷◌}
use Prim.Native.Nat.{ℕ, ◌*◌}
use native.Mathlib.Omega.{arith}
use lib.IntN.{ℤ, pos}
use lib.ListN.{length, get_or}
use borrow.Author.Tests.{ne_eqb}
use Rattle.listing.specs.Lines.{refused_line}
use Rattle.adv7194_captions.specs.Pairs.{caption_field}
use Rattle.adv7194_captions.specs.Plans.{pair_size}
use Rattle.caption_listing.specs.CaptionText.{pairs_text, caption_text}

-- the characters of an input at two places
abbrev pub characters_at : List ℕ → ℕ → ℕ → List ℤ
characters_at input i j = pos (get_or input i 0) ∷ pos (get_or input j 0) ∷ []

-- two bytes are the ordinary pair
pub two_bytes : (input : List ℕ) → length input ≡ pair_size → caption_text input ≡ pairs_text [] (characters_at input 0 1)
unfolding caption_text
two_bytes [] h = absurd (omega arith)
two_bytes (a ∷ []) h = absurd (omega arith)
two_bytes (a ∷ b ∷ []) h = refl
two_bytes (a ∷ b ∷ c ∷ zs) h = absurd (omega arith)

-- four the extended one and then the ordinary one
pub four_bytes : (input : List ℕ) → length input ≡ 2 * pair_size → caption_text input ≡ pairs_text (characters_at input 0 1) (characters_at input 2 3)
unfolding caption_text
four_bytes [] h = absurd (omega arith)
four_bytes (a ∷ []) h = absurd (omega arith)
four_bytes (a ∷ b ∷ []) h = absurd (omega arith)
four_bytes (a ∷ b ∷ c ∷ []) h = absurd (omega arith)
four_bytes (a ∷ b ∷ c ∷ d ∷ []) h = refl
four_bytes (a ∷ b ∷ c ∷ d ∷ e ∷ zs) h = absurd (omega arith)

-- another count is refused
pub other_count : (input : List ℕ) → (length input ≡ pair_size → ⊥) → (length input ≡ 2 * pair_size → ⊥) → caption_text input ≡ refused_line 3 caption_field
unfolding caption_text
other_count input h k = rw (ne_eqb (length input) pair_size h, ne_eqb (length input) (2 * pair_size) k)
