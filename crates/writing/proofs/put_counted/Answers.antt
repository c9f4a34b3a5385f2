-- words, count and words in a row
use Rattle.std.proofs.Common.{arith}
use Rattle.writing.proofs.Putting.{put, more}
use Rattle.writing.proofs.put_counted.Goals as goal

pub returns : goal.returns
returns c =
    let w = more (put c.put-begun.ensures.answer c.put-begun.ensures.memory) c.put_decimal-counted.ensures.written (omega (arith, c.requires)) in
    record { written = more w (put c.put.ensures.answer c.put.ensures.memory) c.requires }
