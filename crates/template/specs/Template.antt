-- A text by a template: `%` stands for the next of some numbers in signed decimal, `#` for the next one as a byte, and any other byte for itself.
use Rattle.std.specs.Prelude.{Bool, cond, ◌||◌, List, [], ◌∷◌, ◌++◌, ℕ, ◌+◌, eqb, ℤ, pos, get_or, drop}
use Rattle.text.specs.Text.{signed}
use Rattle.writing.specs.Put.{number_width}
use Rattle.writing.specs.Codes.{code}

-- the ASCII codes of `%` and `#`
abbrev pub decimal_mark : ℕ
decimal_mark = 0x25

abbrev pub byte_mark : ℕ
byte_mark = 0x23

-- a byte of a template is a mark
abbrev pub is_mark : ℕ → Bool
is_mark b = eqb b decimal_mark || eqb b byte_mark

-- what a byte of a template stands for, by the number that is next
unfoldable pub stands_for : ℕ → ℤ → List ℕ
stands_for b z = cond (eqb b decimal_mark) (signed z) (cond (eqb b byte_mark) (code z) (b ∷ []))

-- how many numbers it takes
abbrev pub taken : ℕ → ℕ
taken b = cond (is_mark b) 1 0

-- the text of a template and some numbers; past the last number there are zeros
unfoldable pub filled : List ℕ → List ℤ → List ℕ
filled [] zs = []
filled (b ∷ bs) zs = stands_for b (get_or zs 0 (pos 0)) ++ filled bs (drop (taken b) zs)

-- the most bytes that a byte of a template stands for, and a template
abbrev pub width : ℕ → ℕ
width b = cond (is_mark b) number_width 1

unfoldable pub widths : List ℕ → ℕ
widths [] = 0
widths (b ∷ bs) = width b + widths bs
