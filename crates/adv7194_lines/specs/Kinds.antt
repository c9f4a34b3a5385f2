-- Document 01, "Fields, in their fixed order": how the setting of any field is written, those that have kinds too.
use Rattle.std.specs.Prelude.{cond, ℕ, ◌+◌, ℤ, pos, get_or}
use mathlib.Core.List.{List, [], ◌++◌, flat_map}
use Rattle.text.specs.Text.{space, signed}
use Rattle.field_table.specs.Walk.{given}
use Rattle.field_table.specs.Blocks.{is, slice}
use Rattle.adv7194_table.specs.Table.{Content, signals, curve, subcarrier, Entry, single, whole}
use Rattle.writing.specs.Ascii.{ascii}
use Rattle.adv7194_names.specs.Names.{named}
use Rattle.writing.specs.Codes.{code}
use Rattle.adv7194_names.specs.Values.{number_text, number, flag}

-- ---- signalling: five numbers from index k on

-- number k of the settings
abbrev pub number_at : List ℤ → ℕ → ℤ
number_at zs k = get_or zs k (pos 0)

-- CGMS: its payload, and whether it is sent in odd and in even fields and checked by the chip
unfoldable pub cgms_text : List ℤ → ℕ → List ℕ
cgms_text zs k =
    number "CGMS " (number_at zs (k + 1)) ++ flag " odd " (number_at zs (k + 2)) ++ flag " even " (number_at zs (k + 3))
    ++ flag " chip check " (number_at zs (k + 4))

-- off, CGMS or WSS
unfoldable pub signalling_text : List ℤ → ℕ → List ℕ
signalling_text zs k =
    cond (is 0 (number_at zs k)) (ascii "off")
    (cond (is 1 (number_at zs k)) (cgms_text zs k)
    (cond (is 2 (number_at zs k)) (number "WSS " (number_at zs (k + 1))) (signed (number_at zs k))))

-- ---- a gamma curve: ten numbers from index k on

-- a ratio, or seven bytes with a space between
unfoldable pub curve_text : List ℤ → ℕ → List ℕ
curve_text zs k =
    cond (is 0 (number_at zs k)) (number "ratio " (number_at zs (k + 1)) ++ number "/" (number_at zs (k + 2)))
    (cond (is 1 (number_at zs k)) (code (number_at zs (k + 3)) ++ flat_map (λ z. space ++ code z) (slice (pos 0) zs (k + 4) 6))
    (signed (number_at zs k)))

-- ---- any field

-- a field of several numbers; the subcarrier word has none
abbrev pub block_text : Content → List ℤ → ℕ → List ℕ
block_text signals zs k = signalling_text zs k
block_text curve zs k = curve_text zs k
block_text subcarrier zs k = []

-- the setting of an entry of the table
abbrev pub value_text : List ℤ → Entry → List ℕ
value_text zs (single f) = number_text (named f.row.field) (given zs f.row)
value_text zs (whole c b) = block_text c zs b.index
