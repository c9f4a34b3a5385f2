-- Document 01, "Refusals", rows 3 to 8 of the table, as they hold of settings and of an image.
use Rattle.std.specs.Prelude.{Bool, false, cond, ◌&&◌, ◌||◌, ℕ, eqb, ℤ}
use mathlib.Core.List.{List, foldr}
use Rattle.refusals.specs.Refusal.{refused_by}
use Rattle.refusals.specs.Verdict.{Verdict}
use Rattle.refusals.specs.Order.{first_of}
use Rattle.field_table.specs.Walk.{given, coding_of, reading_of}
use Rattle.field_table.specs.Blocks.{is}
use Rattle.adv7194_table.specs.Fields.{standard, square_pixel, oversampling, pedestal}
use Rattle.adv7194_table.specs.Blocks.{signalling}
use Rattle.adv7194_table.specs.Table.{Entry, single, whole, table, field_of}
use Rattle.adv7194_signalling.specs.Signalling.{signalling_conflict, held_conflict}
use Rattle.adv7194_settings.specs.Codes.{numbers_in, block_codes}
use Rattle.adv7194_settings.specs.Held.{block_reading, bytes_in, setting_held, settings_held}
use Rattle.adv7194_settings.specs.Order.{order}

-- row 5: square pixel with 4x
abbrev pub square_with_oversampling : List ℤ → Bool
square_with_oversampling zs = is 1 (given zs square_pixel.row) && is 1 (given zs oversampling.row)

-- row 6: pedestal with PAL
abbrev pub pedestal_with_pal : List ℤ → Bool
pedestal_with_pal zs = is 1 (given zs pedestal.row) && is 1 (given zs standard.row)

-- the coding of an entry's settings is refused by n
abbrev pub coding_refused : List ℤ → ℕ → Entry → Bool
coding_refused zs n (single f) = refused_by n (coding_of zs f)
coding_refused zs n (whole c b) = refused_by n (block_codes zs c b)

-- the reading of an image's bits in an entry is refused by n
abbrev pub reading_refused : List ℕ → ℕ → Entry → Bool
reading_refused image n (single f) = refused_by n (reading_of image f)
reading_refused image n (whole c b) = refused_by n (block_reading image c b)

-- an entry of field f meets a test
unfoldable pub some_of : (Entry → Bool) → ℕ → List Entry → Bool
some_of P f es = foldr (λ e b. eqb f (field_of e) && P e || b) false es

-- row n holds of the settings at field f. Rows 3 and 4 are said by the field's coding: a number is outside its range; a code is reserved, or WSS
-- breaks its odd count
unfoldable pub row_holds : List ℤ → ℕ → ℕ → Bool
row_holds zs n f =
    cond (eqb n 5) (eqb f oversampling.row.field && square_with_oversampling zs)
    (cond (eqb n 6) (eqb f pedestal.row.field && pedestal_with_pal zs)
    (cond (eqb n 7) (eqb f signalling.field && signalling_conflict (given zs standard.row) (numbers_in zs signalling))
    (some_of (coding_refused zs n) f table)))

-- row n holds of an image at field f. Rows 3, 4 and 8 are said by the field's reading: no setting has the code; a code is reserved, a must-be-zero bit
-- is set, or WSS breaks its odd count; check bits or subcarrier word don't agree with the other fields
unfoldable pub row_held : List ℕ → ℕ → ℕ → Bool
row_held image n f =
    cond (eqb n 5) (eqb f oversampling.row.field && square_with_oversampling (settings_held image))
    (cond (eqb n 6) (eqb f pedestal.row.field && pedestal_with_pal (settings_held image))
    (cond (eqb n 7) (eqb f signalling.field && held_conflict (setting_held image standard) (bytes_in image signalling))
    (some_of (reading_refused image n) f table)))

-- the check of settings: row n at field f where it is the first of the checking order that holds
unfoldable pub check_of : List ℤ → Verdict (Unit {0})
check_of zs = first_of (row_holds zs) order tt

-- the judgement of an image, likewise
unfoldable pub judge_of : List ℕ → Verdict (Unit {0})
judge_of image = first_of (row_held image) order tt
