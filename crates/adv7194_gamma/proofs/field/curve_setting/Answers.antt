-- `field::curve_setting` meets its contract: the image has the seven registers. Assumes nothing.
use mathlib.Core.Path.{ap}
use Prim.Native.Nat.{◌+◌}
use native.Mathlib.Omega.{arith}
use lib.ListN.{length}
use borrow.Author.Tests.{le-leb}
use Rattle.refusals.specs.Refusal.{accepted}
use Rattle.adv7194_gamma.proofs.CodeLaws.{seven_from}
use Rattle.adv7194_gamma.proofs.field.curve_setting.Goals as goal

pub returns : goal.returns
returns c =
    let a = c.args in
    record { answer = rw (le-leb (a.register + 7) (length a.image.now) (omega arith)) (ap accepted (seven_from a.image.now a.register)) }
