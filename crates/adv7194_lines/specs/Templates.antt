-- The tables of templates of signalling and of curves, and which column is a kind's.
use Rattle.std.specs.Prelude.{cond, List, ℕ, ℤ}
use Rattle.field_table.specs.Blocks.{is}
use Rattle.writing.specs.Ascii.{ascii}
use Rattle.adv7194_lines.specs.declared.kinds.Template.{Template}

-- signalling but CGMS: off, WSS, any other number
abbrev pub signalling_table : List ℕ
signalling_table = ascii "off,WSS %,%"

unfoldable pub signalling_template : ℤ → Template
signalling_template z =
    cond (is 0 z) (record { column = 0; skipped = 0 }) (cond (is 2 z) (record { column = 1; skipped = 1 }) (record { column = 2; skipped = 0 }))

-- a curve: a ratio, seven bytes, any other number
abbrev pub curve_table : List ℕ
curve_table = ascii "ratio %/%,# # # # # # #,%"

unfoldable pub curve_template : ℤ → Template
curve_template z =
    cond (is 0 z) (record { column = 0; skipped = 1 }) (cond (is 1 z) (record { column = 1; skipped = 3 }) (record { column = 2; skipped = 0 }))
