-- What `begin` reads is the number that the plan's first six bits are.
use Rattle.std.proofs.Common.{refl, arith}
use Rattle.unpacking.proofs.PlaceLaws.{start-number, no_number_lem}
use Rattle.unpacking.proofs.steps.begin.Goals as goal

pub returns-then-plan-eq0 : goal.returns-then-plan-eq0
returns-then-plan-eq0 c = rw (no_number_lem c.args.plan.now c.if-plan-eq0.true) (record { answer = refl })

pub returns : goal.returns
returns c = rw (start-number c.args.plan.now (omega arith) (c.type_inv.plan 0).fits) (record { answer = refl })
