-- `faults::fault_line`: place, words and line end in a row. Assumes nothing.
use Rattle.std.proofs.Common.{arith}
use Rattle.refusals.specs.Refusal.{number_of}
use Rattle.adv7194_names.specs.Widths.{line_width}
use Rattle.writing.proofs.Putting.{put, more, wider, same_text}
use Rattle.adv7194_listing.proofs.WordLaws.{line_told}
use Rattle.adv7194_listing.proofs.faults.fault_line.Goals as goal

pub returns : goal.returns
returns c =
    let told = more c.put_place-place.ensures.written c.put_words-words.ensures.written (omega arith) in
    let line = more told (put c.put.ensures.answer c.put.ensures.memory) (omega arith) in
    let fault = c.args.fault in
    record { written = same_text (line_told c.args.image.now (number_of fault.refusal) fault.field) (wider line_width (omega arith) line) }
