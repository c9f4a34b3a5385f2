-- Document 01, "Fields, in their fixed order": what a setting is. How a number is written, for every number that can stand in it: one that has no word is
-- written in signed decimal.
use Rattle.std.specs.Prelude.{cond, List, [], ◌∷◌, ◌++◌, ℕ, ℤ}
use Prim.Native.String.{String}
use Rattle.text.specs.Text.{signed}
use Rattle.field_table.specs.Blocks.{is}
use Rattle.writing.specs.Ascii.{ascii}
use Rattle.adv7194_names.specs.Names.{Named}

-- the word of a setting: none but 0 and 1 may have one
unfoldable pub word_of : Named → ℤ → List ℕ
word_of w n = cond (is 0 n) (ascii w.zero) (cond (is 1 n) (ascii w.one) [])

-- a text, or where it is empty another
abbrev pub or_else : List ℕ → List ℕ → List ℕ
or_else [] other = other
or_else (b ∷ bs) other = b ∷ bs

-- a setting of one number: its word, or the number with its unit
unfoldable pub number_text : Named → ℤ → List ℕ
number_text w n = or_else (word_of w n) (signed n ++ ascii w.unit)

-- a word and a number
abbrev pub number : String → ℤ → List ℕ
number word n = ascii word ++ signed n

-- a yes/no
unfoldable pub yes_no : ℤ → List ℕ
yes_no n = cond (is 0 n) (ascii "no") (cond (is 1 n) (ascii "yes") (signed n))

-- a word and a yes/no
abbrev pub flag : String → ℤ → List ℕ
flag word n = ascii word ++ yes_no n
