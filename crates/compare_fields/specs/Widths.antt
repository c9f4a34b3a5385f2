-- The most bytes of the line of a field of two images.
use Rattle.std.specs.Prelude.{ℕ, ◌+◌, ◌*◌}
use Rattle.adv7194_bus.specs.Kind.{register_count}
use Rattle.adv7194_names.specs.Widths.{label_width}

-- a raw code, by the number of registers
abbrev pub raw_width : ℕ
raw_width = 3 * register_count

-- one side of a field's line
abbrev pub side_width : ℕ
side_width = raw_width

-- a field's line: number and name, two sides, and what stands before, between and after them
abbrev pub field_width : ℕ
field_width = label_width + 4 + side_width + 2 + side_width + 1
