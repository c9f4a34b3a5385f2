-- The codes that settings mean and the numbers that an image holds, entry by entry of the table: a field of one number has one.
use Rattle.std.specs.Prelude.{List, [], ◌∷◌, ℕ, ℤ}
use Rattle.refusals.specs.Refusal.{Judged, accepted, refused}
use Rattle.field_table.specs.Walk.{coding_of, reading_of}
use Rattle.adv7194_table.specs.Table.{Entry, single, whole}
use Rattle.adv7194_settings.specs.Codes.{block_codes}
use Rattle.adv7194_settings.specs.Held.{block_reading}

-- a judgement of a value as one of the list of it alone
abbrev pub alone : {A : Type 0} → Judged A → Judged (List A)
alone (accepted a) = accepted (a ∷ [])
alone (refused n) = refused n

-- the codes of an entry of the table, or the refusal of its settings
abbrev pub codes_of : List ℤ → Entry → Judged (List ℕ)
codes_of zs (single f) = alone (coding_of zs f)
codes_of zs (whole c b) = block_codes zs c b

-- the reading of an entry of the table
abbrev pub entry_reading : List ℕ → Entry → Judged (List ℤ)
entry_reading image (single f) = alone (reading_of image f)
entry_reading image (whole c b) = block_reading image c b
