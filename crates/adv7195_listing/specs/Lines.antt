-- Document 02, P13: the ADV7195's fields by number and name, one line each in field order; must-be-zero bits have numbers and no line. A line is a template:
-- `%` stands for a setting in decimal, `#` for a curve's byte.
use mathlib.Core.List.{List, [], ◌∷◌, ◌++◌, foldr}
use Rattle.std.specs.Prelude.{ℕ}
use Prim.Native.String.{String}
use Rattle.text.specs.Text.{line_end}
use Rattle.writing.specs.Ascii.{ascii}

-- the lines
unfoldable pub lines : List String
lines =
    "1 output standard %"
    ∷ "2 input control signals %"
    ∷ "3 input standard %"
    ∷ "5 DV polarity %"
    ∷ "7 pixel data enable %"
    ∷ "8 input format %"
    ∷ "9 test pattern enable %"
    ∷ "10 test pattern frame %"
    ∷ "11 VBI open %"
    ∷ "12 undershoot limiter %"
    ∷ "13 sharpness filter %"
    ∷ "14 Y delay %"
    ∷ "15 colour delay %"
    ∷ "16 CGMS enable %"
    ∷ "17 CGMS CRC %"
    ∷ "18 HDTV enable %"
    ∷ "21 DAC A %"
    ∷ "22 DAC B %"
    ∷ "23 DAC C %"
    ∷ "24 interpolation %"
    ∷ "26 timing reset %"
    ∷ "28 RGB mode %"
    ∷ "29 sync on PrPb %"
    ∷ "30 colour output swap %"
    ∷ "31 gamma curve %"
    ∷ "32 gamma correction %"
    ∷ "33 adaptive mode %"
    ∷ "34 adaptive filter %"
    ∷ "35 colour Y %"
    ∷ "36 colour Cr %"
    ∷ "37 colour Cb %"
    ∷ "38 mode register 6 %"
    ∷ "39 filter gain A %"
    ∷ "40 filter gain B %"
    ∷ "41 CGMS data %"
    ∷ "42 gamma curve A # # # # # # #"
    ∷ "43 gamma curve B # # # # # # #"
    ∷ "44 adaptive gain 1 A %"
    ∷ "45 adaptive gain 1 B %"
    ∷ "46 adaptive gain 2 A %"
    ∷ "47 adaptive gain 2 B %"
    ∷ "48 adaptive gain 3 A %"
    ∷ "49 adaptive gain 3 B %"
    ∷ "50 threshold A %"
    ∷ "51 threshold B %"
    ∷ "52 threshold C %"
    ∷ []

-- the template: the lines as one text
abbrev pub template : List ℕ
template = foldr (λ l rest. ascii l ++ line_end ++ rest) [] lines
