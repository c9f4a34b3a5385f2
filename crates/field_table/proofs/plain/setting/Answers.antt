-- A code outside the range is refused, and one inside it is its own setting.
use Rattle.std.proofs.Common.{◌≡◌, true, false, pos, ap, ◌∙◌, arith}
use Rattle.refusals.specs.Refusal.{accepted}
use Rattle.std.proofs.lemmas.Int.{ints}
use Rattle.field_table.specs.Coding.{outside}
use Rattle.field_table.proofs.PlainLaws.{row_fits_lem, read_out, read_in}
use Rattle.field_table.proofs.plain.setting.Goals as goal

pub returns-then-outside : goal.returns-then-outside
returns-then-outside c =
    let r = c.args.row in
    let judged : outside r (pos c.args.code) ≡ true = grind (arith, ints) in
    record { answer = read_out r (row_fits_lem r c.requires) c.args.code _ judged (grind (arith, ints)) }

pub returns : goal.returns
returns c =
    let r = c.args.row in
    let judged : outside r (pos c.args.code) ≡ false = grind (arith, ints) in
    record { answer = ap accepted (grind (arith, ints)) ∙ read_in r (row_fits_lem r c.requires) c.args.code judged }
