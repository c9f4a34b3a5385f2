-- A quoted text as a list of ASCII codes.
use Rattle.std.specs.Prelude.{List, [], ◌∷◌, ℕ, zero, suc}
use Prim.Native.Char.{code}
use Prim.Native.String.{String, len, char_at}

-- the codes of n characters from the i-th on
abbrev pub codes_from : String → ℕ → ℕ → List ℕ
codes_from s i zero = []
codes_from s i (suc n) = code (char_at s i) ∷ codes_from s (suc i) n

-- the codes of a quoted text
abbrev pub ascii : String → List ℕ
ascii s = codes_from s 0 (len s)
