-- The tests of the table, each computed over all of its rows; and the check of settings and the judgement of an image as walks of it. Assumes nothing.
use mathlib.Core.Path.{◌≡◌}
use mathlib.Core.List.{List}
use Prim.Native.Nat.{ℕ}
use lib.Dec.{T}
use lib.IntN.{ℤ}
use Rattle.field_table.specs.Coding.{plain_fields}
use Rattle.field_table.specs.Walk as table
use Rattle.field_table.specs.Walk.{row_fits, all_fit, within}
use Rattle.field_table.specs.RoundTrip.{apart_from, all_apart, some_at, own_numbers, all_numbered}
use Rattle.field_table.specs.Refusals.{ascends_from}
use Rattle.field_table.proofs.RefusalLaws.{check_first, judge_first}
use Rattle.field_table.proofs.RoundTripLaws.{all_plain}
use Rattle.field_table.proofs.FitLaws.{rows_in}
use Rattle.field_table.proofs.MaskLaws.{zero_fits}
use Rattle.adv7195_bus.specs.Kind.{register_count}
use Rattle.adv7195_bus.specs.Rules.{writable}
use Rattle.adv7195_settings.specs.Fields.{modes, outputs, blocks, filters, fields}
use Rattle.adv7195_settings.specs.Numbers.{part_count, parts_of}
use Rattle.adv7195_settings.specs.Wanted.{must_be_zero}
use Rattle.adv7195_settings.specs.Rows.{order, check_of, judge_of}

-- ---- tests

-- every row's settings are codes of its bits
pub fields_fit : T (all_fit fields)
unfolding all_fit modes outputs blocks filters fields
fields_fit = tt

-- the fields ascend
fields_ascend : T (ascends_from 1 fields)
unfolding ascends_from modes outputs blocks filters fields
fields_ascend = tt

-- no two rows have a bit in common
pub fields-apart : T (all_apart fields)
unfolding apart_from all_apart modes outputs blocks filters fields
fields-apart = tt

-- every setting is its code
pub fields-plain : T (all_plain row_fits fields)
unfolding all_plain modes outputs blocks filters fields
fields-plain = tt

-- must-be-zero bits have no setting but 0
pub fields-zero : T (all_plain (zero_fits must_be_zero) fields)
unfolding all_plain modes outputs blocks filters fields
fields-zero = tt

-- every row's register is one that the chip has and a byte may be written to
pub fields-writable : T (rows_in writable fields)
unfolding rows_in modes outputs blocks filters fields
fields-writable = tt

-- an image has it
pub fields_within : T (within register_count fields)
unfolding within modes outputs blocks filters fields
fields_within = tt

-- no two rows have the same number
pub fields_own : T (own_numbers part_count fields)
unfolding some_at own_numbers modes outputs blocks filters fields
fields_own = tt

-- every number is some row's
pub fields-all : T (all_numbered part_count fields)
unfolding some_at all_numbered modes outputs blocks filters fields
fields-all = tt

-- ---- walks

-- the packed rows fit where they are the table
pub rows_fit : (ps : List ℕ) → plain_fields ps ≡ fields → T (all_fit (plain_fields ps))
rows_fit ps e = rw e fields_fit

-- the check of settings
pub check_walk : (zs : List ℤ) → table.check_of (parts_of zs) fields ≡ check_of zs
unfolding check_of order
check_walk zs = check_first (parts_of zs) fields fields_ascend

-- the judgement of an image
pub judge_walk : (image : List ℕ) → table.judge_of image fields ≡ judge_of image
unfolding judge_of order
judge_walk image = judge_first image fields fields_ascend
