-- Document 01, "Refusals": a setting read is the one nearest zero that has that code; curves are read as seven bytes. The settings that an image holds,
-- field by field of the table.
use Rattle.std.specs.Prelude.{cond, ℕ, ℤ, pos, replicate}
use mathlib.Core.List.{List, [], foldl}
use Rattle.bits.specs.Bytes.{same_bytes}
use Rattle.refusals.specs.Refusal.{Judged, accepted, refused, value_or}
use Rattle.field_table.specs.Coding.{Field}
use Rattle.field_table.specs.Walk.{reading_of, store}
use Rattle.field_table.specs.Blocks.{store_from, slice}
use Rattle.adv7194_table.specs.declared.blocks.Block.{Block}
use Rattle.adv7194_table.specs.Fields.{number_count, standard, square_pixel}
use Rattle.adv7194_table.specs.Table.{Content, signals, curve, subcarrier, Entry, single, whole, table}
use Rattle.adv7194_signalling.specs.Signalling.{signalling_held}
use Rattle.adv7194_gamma.specs.Curve.{curve_numbers}
use Rattle.adv7194_subcarrier.specs.Subcarrier.{word_codes}

-- the setting of a field of one number
abbrev pub setting_held : List ℕ → Field → ℤ
setting_held image f = value_or (pos 0) (reading_of image f)

-- the bytes of a block's registers
abbrev pub bytes_in : List ℕ → Block → List ℕ
bytes_in image b = slice 0 image b.register b.registers

-- the reading of a block: its numbers, or a refusal. The subcarrier word has none; row 8 where it doesn't agree with the standard and square pixel
abbrev pub block_reading : List ℕ → Content → Block → Judged (List ℤ)
block_reading image signals b = signalling_held (bytes_in image b)
block_reading image curve b = accepted (curve_numbers (bytes_in image b))
block_reading image subcarrier b =
    cond (same_bytes (bytes_in image b) (word_codes (setting_held image standard) (setting_held image square_pixel))) (accepted []) (refused 8)

-- numbers with an entry's stored at its index: a block's are as many as it has, 0 where its reading is a refusal
abbrev pub store_entry : List ℕ → List ℤ → Entry → List ℤ
store_entry image zs (single f) = store image zs f
store_entry image zs (whole c b) = store_from zs b.index (slice (pos 0) (value_or [] (block_reading image c b)) 0 b.numbers)

-- 49 zeros
abbrev pub no_numbers : List ℤ
no_numbers = replicate number_count (pos 0)

-- the settings that an image holds
unfoldable pub settings_held : List ℕ → List ℤ
settings_held image = foldl (store_entry image) no_numbers table
