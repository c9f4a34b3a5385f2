-- `reading::read_last` meets its contract: a step after the other.
use Rattle.refusals.specs.Verdict.{verdict_as}
use Rattle.adv7194_reading.proofs.ReadLaws.{last_verdict_lem, last_read}
use Rattle.adv7194_reading.proofs.reading.read_last.Goals as goal

pub returns : goal.returns
returns c =
    let image = c.args.image.now in
    let e1 = c.read_signalling-signalling.ensures in
    let e2 = c.read_picture-picture.ensures in
    let e3 = c.read_dnr-dnr.ensures in
    let e4 = c.read_curve-curve_a.ensures in
    let e5 = c.read_curve-curve_b.ensures in
    record {
      answer =
          last_verdict_lem image c.requires.1 e1.memory e2.memory e3.memory e4.memory e5.memory (verdict_as c.args.before)
          e1.answer e2.answer e3.answer e4.answer e5.answer c.read_word.ensures.answer;
      memory = last_read image c.requires.1 e1.memory e2.memory e3.memory e4.memory e5.memory;
    }
