-- Document 01, "Promises with no slack": what a text written into a lent line that has room for it leaves there.
use Rattle.std.specs.Prelude.{◌≡◌, List, ℕ, ◌+◌, ◌≤◌, length}
use Rattle.text.specs.Line.{appended}

-- the text is written at a place, the answer is the place after it, and it is at most `width` bytes long
pub record Put (width : ℕ) (line : List ℕ) (at : ℕ) (text after : List ℕ) (place : ℕ) : Type 0 where
  pub answer : place ≡ at + length text
  pub memory : after ≡ appended line at text
  pub most : place ≤ at + width

-- ---- the most bytes of a number

-- a signed number of 32 bits: a sign and ten digits
abbrev pub number_width : ℕ
number_width = 11

-- a count of 64 bits: twenty digits
abbrev pub count_width : ℕ
count_width = 20
