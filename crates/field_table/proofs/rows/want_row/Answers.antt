-- A plain row's code is one of its bits.
use Rattle.std.proofs.Common.{◌≡◌, arith}
use Rattle.std.proofs.lemmas.Int.{ints}
use Rattle.refusals.specs.Refusal.{judged_as}
use Rattle.field_table.specs.Rows.{row_of}
use Rattle.field_table.specs.Coding.{plain_of, encode}
use Rattle.field_table.specs.Walk.{bits_fit, given}
use Rattle.bits.proofs.FlagLaws.{first}
use Rattle.field_table.proofs.PlainLaws.{row_fits_lem, code_fits}
use Rattle.field_table.proofs.rows.want_row.Goals as goal

pub want_coded-requires : goal.want_coded-requires
want_coded-requires c =
    let r = row_of c.args.packed in
    let coded : judged_as c.code-coded.result ≡ encode (plain_of r) (given c.args.numbers.now r) = grind (arith, ints) in
    (first (bits_fit r) _ c.requires, rw coded (code_fits r (row_fits_lem r c.requires) _))
