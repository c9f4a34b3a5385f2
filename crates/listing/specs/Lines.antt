-- Document 01, "Cases on each side": a listing's first line has the word PLAN and two counts, or the word REFUSED with number and field.
use Rattle.std.specs.Prelude.{Bool, true, false, ◌&&◌, List, [], ◌∷◌, ◌++◌, ℕ, eqb}
use Rattle.text.specs.Text.{space, line_end, decimal}

-- `PLAN `
abbrev pub plan_word : List ℕ
plan_word = 0x50 ∷ 0x4c ∷ 0x41 ∷ 0x4e ∷ 0x20 ∷ []

-- `REFUSED `
abbrev pub refused_word : List ℕ
refused_word = 0x52 ∷ 0x45 ∷ 0x46 ∷ 0x55 ∷ 0x53 ∷ 0x45 ∷ 0x44 ∷ 0x20 ∷ []

-- a word, two numbers with a space between, and a line end
unfoldable pub counts_line : List ℕ → ℕ → ℕ → List ℕ
counts_line word a b = word ++ decimal a ++ space ++ decimal b ++ line_end

-- the line `PLAN transactions bytes`
abbrev pub plan_line : ℕ → ℕ → List ℕ
plan_line transactions bytes = counts_line plan_word transactions bytes

-- the line `REFUSED number field`
abbrev pub refused_line : ℕ → ℕ → List ℕ
refused_line number field = counts_line refused_word number field

-- the line begins with the word
unfoldable pub begins : List ℕ → List ℕ → Bool
begins [] line = true
begins (x ∷ word) [] = false
begins (x ∷ word) (y ∷ line) = eqb x y && begins word line
