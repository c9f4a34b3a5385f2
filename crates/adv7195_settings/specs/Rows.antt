-- Document 01, "Refusals", rows 3 and 4 of the table, as they hold of the ADV7195's settings and of its images, in the order of its numbers.
use Rattle.std.specs.Prelude.{Bool, List, ℕ, ℤ, pos, replicate}
use Rattle.refusals.specs.Verdict.{Verdict}
use Rattle.refusals.specs.Order.{Place, first_of}
use Rattle.field_table.specs.Walk.{numbers_of}
use Rattle.field_table.specs.Refusals.{row_holds, row_held, order_of}
use Rattle.adv7195_settings.specs.Fields.{fields}
use Rattle.adv7195_settings.specs.Numbers.{part_count, parts_of}
use Rattle.adv7195_settings.specs.Numbers as settings

-- row n holds of the settings at field f
abbrev pub setting_row : List ℤ → ℕ → ℕ → Bool
setting_row zs n f = row_holds (parts_of zs) fields n f

-- row n holds of an image at field f
abbrev pub image_row : List ℕ → ℕ → ℕ → Bool
image_row image n f = row_held image fields n f

-- the checking order: numbers 1 to 52
unfoldable pub order : List Place
order = order_of fields

-- the check of settings: row n at field f where it is the first of the checking order that holds
unfoldable pub check_of : List ℤ → Verdict (Unit {0})
check_of zs = first_of (setting_row zs) order tt

-- the judgement of an image, likewise
unfoldable pub judge_of : List ℕ → Verdict (Unit {0})
judge_of image = first_of (image_row image) order tt

-- the settings that an image holds
unfoldable pub settings_held : List ℕ → List ℤ
settings_held image = settings.numbers_of (numbers_of image (replicate part_count (pos 0)) fields)
