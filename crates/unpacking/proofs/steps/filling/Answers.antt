-- `filling`: the last byte's low bits, where it is the last.
use Rattle.std.proofs.Common.{sym, arith}
use Rattle.bits.proofs.DigitLaws.{one_shl}
use Rattle.unpacking.proofs.PlaceLaws.{not_filling, last_filling}
use Rattle.unpacking.proofs.steps.filling.Goals as goal

pub returns-then-at-plan : goal.returns-then-at-plan
returns-then-at-plan c = record { answer = sym (not_filling c.args.plan.now c.args.place c.requires c.if-at-plan.true) }

pub returns : goal.returns
returns c =
    rw (one_shl c.args.place.held 32 (omega (arith, c.requires.few)))
    (record { answer = sym (last_filling c.args.plan.now c.args.place c.requires c.if-at-plan.false) })
