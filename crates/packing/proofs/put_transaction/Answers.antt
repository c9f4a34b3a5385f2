-- `put_transaction`: subaddress, data count and data are put one after the other.
use Rattle.std.proofs.Common.{length, arith}
use Rattle.bits.proofs.StringLaws.{msb_length}
use Rattle.packing.specs.Packing.{transaction_bits}
use Rattle.packing.proofs.PutLaws.{put_then}
use Rattle.packing.proofs.put_transaction.Goals as goal

pub put-header-requires : goal.put-header-requires
put-header-requires c =
    let p = c.put-start.ensures.answer in
    let six = msb_length 6 c.args.subaddress in
    (p.sound, omega arith, omega (arith, c.requires.2), omega (arith, c.requires.3, c.put-start.auto.plan, p.more, six))

pub put_bytes-requires : goal.put_bytes-requires
put_bytes-requires c =
    let p = c.put-start.ensures.answer in
    let q = c.put-header.ensures.answer in (
      q.sound,
      omega (
        arith,
        c.requires.3,
        c.put-start.auto.plan,
        c.put-header.auto.plan,
        p.more,
        q.more,
        msb_length 6 c.args.subaddress,
        msb_length 6 (length c.args.bytes.now),
      ),
    )

pub returns : goal.returns
unfolding transaction_bits
returns c = record { answer = put_then c.put-start.ensures.answer (put_then c.put-header.ensures.answer c.put_bytes.ensures.answer) }
