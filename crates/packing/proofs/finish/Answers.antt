-- `finish`: with the zero bits that were put, the plan's bytes are those of its bits.
use Rattle.packing.proofs.PutLaws.{put_finished}
use Rattle.packing.proofs.finish.Goals as goal

pub returns : goal.returns
returns c =
    let p = c.put-last in
    let r = put_finished c.args.plan.now p.new.plan c.args.pending p.result (λ i. (c.type_inv.plan i).fits) c.requires.0 c.requires.1 p.auto.plan
    p.ensures.answer in
    record { answer = r.0; memory = r.1 }
