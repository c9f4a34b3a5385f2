-- The words of faults as a table of templates, which of them tell a refusal, and the numbers that they show.
use Rattle.std.specs.Prelude.{cond, List, [], ◌∷◌, ℕ, eqb, ℤ, pos, get_or}
use Prim.Native.String.{String}
use Rattle.field_table.specs.Walk.{held}
use Rattle.adv7194_signalling.specs.Kind.{by_kind}
use Rattle.template.specs.Columns.{words_text}
use Rattle.adv7194_listing.specs.Faults.{field_row}

-- the words, each after a colon
unfoldable pub words : List String
words =
    ": code % out of range"
    ∷ ": reserved code %"
    ∷ ": reserved code # # #"
    ∷ ": must-be-zero bits set"
    ∷ ": with square pixel"
    ∷ ": with PAL"
    ∷ ": CGMS with PAL"
    ∷ ": WSS with NTSC"
    ∷ ": CGMS and WSS at once"
    ∷ ": doesn't agree with standard and square pixel"
    ∷ ": check bits don't agree"
    ∷ ": not known"
    ∷ ": "
    ∷ []

-- the table
abbrev pub word_table : List ℕ
word_table = words_text words

-- row 4: signalling's bytes, must-be-zero bits, or a code
unfoldable pub reserved_words : ℕ → ℕ
reserved_words f = cond (eqb f 11) 2 (cond (eqb (field_row f).outside 3) 3 1)

-- row 7: by the kind
abbrev pub conflict_words : ℕ → ℕ
conflict_words r19 = by_kind r19 8 7 6 8 12

-- the words of row n at field f, where register 19 holds a byte; none for row 1, whose words have a count
unfoldable pub words_of : ℕ → ℕ → ℕ → ℕ
words_of n f r19 =
    cond (eqb n 3) 0
    (cond (eqb n 4) (reserved_words f)
    (cond (eqb n 5) 4
    (cond (eqb n 6) 5
    (cond (eqb n 7) (conflict_words r19)
    (cond (eqb n 8) (cond (eqb f 28) 9 10)
    (cond (eqb n 11) 11 12))))))

-- the numbers that words show
unfoldable pub shown_numbers : List ℕ → ℕ → ℕ → List ℤ
shown_numbers image f column =
    cond (eqb column 2) (pos (get_or image 0x19 0) ∷ pos (get_or image 0x1a 0) ∷ pos (get_or image 0x1b 0) ∷ []) (pos (held image (field_row f)) ∷ pos 0 ∷ pos 0 ∷ [])
