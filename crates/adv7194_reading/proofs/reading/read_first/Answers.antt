-- `reading::read_first` meets its contract: a step after the other.
use Rattle.adv7194_reading.proofs.ReadLaws.{first_verdict, first_read}
use Rattle.adv7194_reading.proofs.reading.read_first.Goals as goal

pub returns : goal.returns
returns c =
    let image = c.args.image.now in
    let e1 = c.read_timing-timing.ensures in
    let e2 = c.square_with_oversampling-square.ensures in
    let e3 = c.read_row-pedestal.ensures in
    let e4 = c.pedestal_with_pal-pal.ensures in
    let e5 = c.read_output.ensures in
    record {
      answer = first_verdict image c.requires e1.memory e3.memory e1.answer e2.answer e3.answer e4.answer e5.answer;
      memory = first_read image c.requires e1.memory e3.memory e5.memory;
    }
