-- Document 01, "Which form to use where": fixed byte strings PLAN and REFUSED, written into the listing line and compared.
use Rattle.std.specs.Prelude.{cond, List, ◌++◌, ℕ, ◌-◌, length}
use Rattle.text.specs.Line.{zeros}
use Rattle.listing.specs.declared.Line.{Line}
use Rattle.listing.specs.declared.Word.{Word}
use Rattle.listing.specs.declared.Word.TheVariants.{Plan, Refused, Other}
use Rattle.listing.specs.Lines.{plan_word, refused_word, begins}

-- the bytes that hold the longest line
abbrev pub line_width : ℕ
line_width = 50

-- a text in the bytes of a line, with zeros after it, and its length
unfoldable pub line_of : List ℕ → Line
line_of text = record { bytes = text ++ zeros (line_width - length text); length = length text }

-- the word that a line begins with
unfoldable pub word_of : List ℕ → Word
word_of line = cond (begins plan_word line) Plan (cond (begins refused_word line) Refused Other)
