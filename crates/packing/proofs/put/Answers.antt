-- `put`: either the bits stay pending, or a byte is full.
use Rattle.std.proofs.Common.{◌+◌, ◌-◌, arith}
use Rattle.bits.proofs.DigitLaws.{one_shl}
use Rattle.packing.proofs.PutLaws.{put_pending, full_lt, put_full}
use Rattle.packing.proofs.put.Goals as goal

pub returns-then-count-lt-BYTE_BITS : goal.returns-then-count-lt-BYTE_BITS
returns-then-count-lt-BYTE_BITS c =
    rw (one_shl c.args.width 64 (omega (arith, c.requires.1)))
    (record { answer = put_pending c.args.plan.now c.args.pending c.args.width c.args.value c.requires.0 c.requires.2 (omega arith) })

pub overflow_cast-plan : goal.overflow_cast-plan
overflow_cast-plan c =
    rw (one_shl c.args.width 64 (omega (arith, c.requires.1)))
    (record { fits = full_lt c.args.pending c.args.width c.args.value c.requires.0 c.requires.2 (omega arith) })

pub returns : goal.returns
returns c =
    rw (
      one_shl c.args.width 64 (omega (arith, c.requires.1)),
      one_shl (c.args.pending.count + c.args.width - 8) 64 (omega (arith, c.requires.0.few, c.requires.1)),
    )
    (record { answer = put_full c.args.plan.now c.args.pending c.args.width c.args.value c.requires.0 c.requires.1 c.requires.2 (omega arith) (omega arith) })
