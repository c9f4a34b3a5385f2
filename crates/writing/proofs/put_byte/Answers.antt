-- the space and the byte in a row
use Rattle.writing.proofs.Putting.{put, more}
use Rattle.writing.proofs.put_byte.Goals as goal

pub returns : goal.returns
returns c = record { written = more (put c.put-spaced.ensures.answer c.put-spaced.ensures.memory) c.put_hex.ensures.written c.requires }
