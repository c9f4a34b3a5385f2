-- `pack_transaction`: what was put into the part is put into the plan.
use Rattle.std.proofs.Common.{arith}
use Rattle.packing.proofs.PackedLaws.{transaction_bits-length}
use Rattle.packing.proofs.PutLaws.{put_part}
use Rattle.packing.proofs.pack_transaction.Goals as goal

pub overflow_add-result : goal.overflow_add-result
overflow_add-result c =
    omega (
      arith,
      c.requires.3,
      c.put_transaction-r.ensures.answer.more,
      transaction_bits-length (record { subaddress = c.args.subaddress; bytes = c.args.bytes.now }),
    )

pub returns : goal.returns
returns c =
    let t = c.put_transaction-r in
    record { answer = put_part c.args.plan.now t.new.part c.args.pending t.result _ (omega arith) t.ensures.answer }
