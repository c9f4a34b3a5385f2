-- A table of words as one text: a comma or a line's end ends each column.
use Rattle.std.specs.Prelude.{Bool, cond, ◌||◌, List, [], ◌∷◌, ◌++◌, ℕ, zero, suc, eqb}
use Prim.Native.String.{String}
use Rattle.writing.specs.Ascii.{ascii}

-- the ASCII codes of a comma and of a line's end
abbrev pub comma : ℕ
comma = 0x2c

abbrev pub newline : ℕ
newline = 0x0a

-- a byte that ends a column
abbrev pub ends : ℕ → Bool
ends b = eqb b comma || eqb b newline

-- column k of a text, counted from its beginning on through all lines
unfoldable pub column_in : List ℕ → ℕ → List ℕ
column_in [] k = []
column_in (b ∷ bs) zero = cond (ends b) [] (b ∷ column_in bs zero)
column_in (b ∷ bs) (suc k) = cond (ends b) (column_in bs k) (column_in bs (suc k))

-- words as a table of one column
unfoldable pub words_text : List String → List ℕ
words_text [] = []
words_text (w ∷ ws) = ascii w ++ (newline ∷ words_text ws)
