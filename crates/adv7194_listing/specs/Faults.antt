-- Document 01, "Refusals", in words: what is at fault in an image that is refused by row n at field f. Document 02, P5: 11 where a register isn't known.
use Rattle.std.specs.Prelude.{cond, List, [], ◌∷◌, ◌++◌, ℕ, eqb, pos, length, get_or}
use Rattle.text.specs.Text.{line_end, decimal, hex_text}
use Rattle.field_table.specs.declared.row.Row.{Row}
use Rattle.field_table.specs.Walk.{held}
use Rattle.adv7194_table.specs.Blocks.{signalling, word}
use Rattle.adv7194_table.specs.Table.{table, single_fields, rows_in}
use Rattle.adv7194_signalling.specs.Kind.{by_kind}
use Rattle.writing.specs.Ascii.{ascii}
use Rattle.adv7194_names.specs.Names.{named}
use Rattle.adv7194_lines.specs.Lines.{label_text}
use Rattle.field_table.specs.Blocks.{slice}

-- the first of some rows that is field f's; one of no bits where there is none
unfoldable pub row_at : ℕ → List Row → Row
row_at f [] = record { field = 0; index = 0; register = 0; bit = 0; width = 0; low = pos 0; high = pos 0; outside = 0 }
row_at f (r ∷ rs) = cond (eqb f r.field) r (row_at f rs)

-- the row of field f, where it has one number
abbrev pub field_row : ℕ → Row
field_row f = row_at f (rows_in (single_fields table))

-- row 4: signalling's bytes, or a field's code; a field whose codes are refused by row 3 is refused by 4 for its must-be-zero bits
unfoldable pub reserved_text : List ℕ → ℕ → List ℕ
reserved_text image f =
    cond (eqb f signalling.field) (ascii "reserved code" ++ hex_text (slice 0 image signalling.register signalling.registers))
    (cond (eqb (field_row f).outside 3) (ascii "must-be-zero bits set") (ascii "reserved code " ++ decimal (held image (field_row f))))

-- row 7: the kind that register 19 holds doesn't go with the standard, or is both
abbrev pub conflict_text : ℕ → List ℕ
conflict_text r19 = by_kind r19 (ascii "CGMS and WSS at once") (ascii "WSS with NTSC") (ascii "CGMS with PAL") (ascii "CGMS and WSS at once") []

-- the words of row n at field f, row 8's by whether it is the subcarrier word or CGMS's check bits; the other rows are none of an image's
unfoldable pub fault_words : List ℕ → ℕ → ℕ → List ℕ
fault_words image n f =
    cond (eqb n 1) (decimal (length image) ++ ascii " bytes, not 54")
    (cond (eqb n 3) (ascii "code " ++ decimal (held image (field_row f)) ++ ascii " out of range")
    (cond (eqb n 4) (reserved_text image f)
    (cond (eqb n 5) (ascii "with square pixel")
    (cond (eqb n 6) (ascii "with PAL")
    (cond (eqb n 7) (conflict_text (get_or image signalling.register 0))
    (cond (eqb n 8) (cond (eqb f word.field) (ascii "doesn't agree with standard and square pixel") (ascii "check bits don't agree"))
    (cond (eqb n 11) (ascii "not known") [])))))))

-- the line: `23 DNR input: reserved code 0`; at field 0 it has no number
unfoldable pub fault_text : List ℕ → ℕ → ℕ → List ℕ
fault_text image n f = cond (eqb f 0) (ascii (named f).name) (label_text f) ++ ascii ": " ++ fault_words image n f ++ line_end
