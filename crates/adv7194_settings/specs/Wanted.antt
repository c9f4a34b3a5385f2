-- Document 01, demand 2's image: each field as its coding makes it from the settings, must-be-zero bits zero, every other bit from the
-- starting image. Registers and bits are those of the table.
use mathlib.Core.List.{List, [], ◌∷◌, flat_map}
use Rattle.std.specs.Prelude.{ℕ, ℤ}
use Rattle.field_table.specs.Writes.{Write, puts}
use Rattle.field_table.specs.Walk.{write_of}
use Rattle.field_table.specs.Blocks.{byte_writes}
use Rattle.adv7194_table.specs.declared.blocks.Block.{Block}
use Rattle.adv7194_table.specs.Table.{Content, signals, curve, subcarrier, Entry, single, whole, table}
use Rattle.adv7194_settings.specs.Codes.{block_codes}
use Rattle.refusals.specs.Refusal.{value_or}

-- what a block's codes set: its registers; off, which has no codes, sets bits 7-4 of the first: "bits 7-4 of 19 zero, the remainder as found"
abbrev pub block_writes : Content → Block → List ℕ → List Write
block_writes signals b [] = record { register = b.register; place = 4; width = 4; value = 0 } ∷ []
block_writes signals b (c ∷ cs) = byte_writes b.register (c ∷ cs)
block_writes curve b cs = byte_writes b.register cs
block_writes subcarrier b cs = byte_writes b.register cs

-- what the settings set by an entry of the table
abbrev pub entry_writes : List ℤ → Entry → List Write
entry_writes zs (single f) = write_of zs f ∷ []
entry_writes zs (whole c b) = block_writes c b (value_or [] (block_codes zs c b))

-- and by some entries
unfoldable pub writes_of : List ℤ → List Entry → List Write
writes_of zs es = flat_map (entry_writes zs) es

-- the image that the settings mean over a starting image
unfoldable pub wanted_by : List ℕ → List ℤ → List ℕ
wanted_by image zs = puts image (writes_of zs table)
