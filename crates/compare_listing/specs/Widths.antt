-- The most bytes of the other lines of two images side by side, and of the whole text.
use Rattle.std.specs.Prelude.{ℕ}

-- a register's line: the words, and room for three numbers
abbrev pub register_width : ℕ
register_width = 47

-- the whole text
abbrev pub text_width : ℕ
text_width = 16384
