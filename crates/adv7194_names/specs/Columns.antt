-- The table of names and units as one text, a line a field: name, word of 0, word of 1 and unit, with a comma between.
use Rattle.std.specs.Prelude.{cond, List, [], ◌∷◌, ◌++◌, ℕ, eqb}
use Rattle.writing.specs.Ascii.{ascii}
use Rattle.template.specs.Columns.{comma, newline}
use Rattle.adv7194_names.specs.Names.{Named}

-- the text of some rows
unfoldable pub columns_text : List Named → List ℕ
columns_text [] = []
columns_text (n ∷ ns) =
    ascii n.name ++ (comma ∷ (ascii n.zero ++ (comma ∷ (ascii n.one ++ (comma ∷ (ascii n.unit ++ (newline ∷ columns_text ns)))))))

-- the text in a column of a row: 0 name, 1 word of 0, 2 word of 1, 3 unit
unfoldable pub column_of : Named → ℕ → List ℕ
column_of n c = cond (eqb c 0) (ascii n.name) (cond (eqb c 1) (ascii n.zero) (cond (eqb c 2) (ascii n.one) (ascii n.unit)))
