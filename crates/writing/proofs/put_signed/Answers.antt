-- the number has room
use Rattle.std.proofs.Common.{◌∙◌, ap, w32, unwrap_or}
use Rattle.std.proofs.lemmas.Int.{to_z-of_z}
use Rattle.writing.proofs.NumberLaws.{signed-most}
use Rattle.writing.proofs.Putting.{given}
use Rattle.writing.proofs.put_signed.Goals as goal

pub returns : goal.returns
returns c =
    let same = to_z-of_z w32 c.args.n c.ranges.n in
    let answer = c.unwrap_or.ensures ∙ ap (λ o. unwrap_or o c.args.at) c.signed.ensures.answer in
    record { written = given (signed-most c.args.n c.ranges.n) c.requires (rw same at answer) (rw same at c.signed.ensures.memory) }
