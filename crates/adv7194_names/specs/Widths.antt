-- The most bytes of each part of a line of the ADV7194's settings.
use Rattle.std.specs.Prelude.{ℕ}

-- a column of the table of names and units
abbrev pub column_width : ℕ
column_width = 20

-- a setting of one number: the number and its unit
abbrev pub setting_width : ℕ
setting_width = 31

-- signalling: the words of CGMS and four numbers
abbrev pub signalling_width : ℕ
signalling_width = 72

-- a further byte of a curve: a space, and a number where it is no byte
abbrev pub next_width : ℕ
next_width = 12

-- a curve: seven numbers that stand for its bytes
abbrev pub curve_width : ℕ
curve_width = 83

-- a field's number and name, with a space between
abbrev pub label_width : ℕ
label_width = 41

-- the words of a fault
abbrev pub words_width : ℕ
words_width = 60

-- any line
abbrev pub line_width : ℕ
line_width = 128

-- the text of any image
abbrev pub text_width : ℕ
text_width = 4096
