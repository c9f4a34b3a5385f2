-- the word and the number in a row
use Rattle.text.specs.Text.{signed}
use Rattle.writing.proofs.Putting.{put, more, passed}
use Rattle.writing.proofs.put_number.Goals as goal

pub returns : goal.returns
returns c =
    let number = passed signed c.args.n c.ranges.n.sfits c.put_signed.ensures.written in
    record { written = more (put c.put-after.ensures.answer c.put-after.ensures.memory) number c.requires }
