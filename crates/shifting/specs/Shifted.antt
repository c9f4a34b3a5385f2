-- Document 01, "Packing": most significant bit first, no gaps. Data bytes stand at any bit: each is cut, its low bits go before the next one's high bits.
use Rattle.std.specs.Prelude.{List, [], ◌∷◌, ℕ, ◌+◌, ◌*◌, ◌/◌, ◌%◌, ◌^◌}

-- the byte that ends so many bits before the end of the second of two bytes
abbrev pub between : ℕ → ℕ → ℕ → ℕ
between held before b = (before * 0x100 + b) / 2 ^ held % 0x100

-- those of bytes one after the other, where another byte stands before them
unfoldable pub shifted : ℕ → ℕ → List ℕ → List ℕ
shifted held before [] = []
shifted held before (b ∷ bs) = between held before b ∷ shifted held b bs

-- the last of some bytes, where another stands before them
abbrev pub last_from : ℕ → List ℕ → ℕ
last_from before [] = before
last_from before (b ∷ bs) = last_from b bs
