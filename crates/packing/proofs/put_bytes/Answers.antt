-- `put_bytes`: the bytes are shifted by the pending bits.
use Rattle.std.proofs.Common.{◌*◌, ◌%◌, ◌^◌, arith}
use Rattle.bits.proofs.DigitLaws.{one_shl}
use Rattle.packing.proofs.PutLaws.{put_shifted}
use Rattle.packing.proofs.put_bytes.Goals as goal

pub returns : goal.returns
returns c =
    let v = c.shift-last in
    record {
      answer = put_shifted c.args.plan.now v.new.to c.args.bytes.now c.args.pending v.result (1 * 2 ^ c.args.pending.count % 2 ^ 64) c.requires.0
          (λ i. (c.type_inv.bytes i).fits) (omega (arith, c.requires.1)) v.ensures.memory v.ensures.answer
          (one_shl c.args.pending.count 64 (omega (arith, c.requires.0.few)));
    }
