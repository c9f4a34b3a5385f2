-- Document 01, "The bus and its three rules": a register is needed where the starting image and the wanted image differ; rules bar some registers.
use Rattle.std.specs.Prelude.{Bool, not, ◌&&◌, ◌||◌, List, ℕ, leb, ltb, eqb, get_or}

-- whether two images of one length differ in register r
abbrev pub differs : List ℕ → List ℕ → ℕ → Bool
differs image wanted r = not (eqb (get_or image r 0) (get_or wanted r 0))

-- register r is one of first to last
abbrev pub among : ℕ → ℕ → ℕ → Bool
among first last r = leb first r && leb r last

-- data for the registers from start on, before the register end, are for none of the registers first to last
abbrev pub apart : ℕ → ℕ → ℕ → ℕ → Bool
apart start end first last = leb end first || ltb last start
