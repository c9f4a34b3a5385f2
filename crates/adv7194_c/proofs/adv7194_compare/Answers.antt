-- `adv7194_compare`: what the library's comparison promises of its answer holds of the numbers.
use Rattle.std.proofs.Common.{sym}
use mathlib.Core.Path.{subst}
use Rattle.adv7194_c.proofs.Comparing.{Compares, compares}
use Rattle.adv7194_c.proofs.adv7194_compare.Goals as goal

pub returns : goal.returns
returns c =
    subst (Compares c.args.a.now c.args.b.now) (sym c.compare_answer.ensures.answer)
    (compares c.args.a.now c.args.b.now c.compare.result c.compare.ensures.answer c.compare.ensures.equal)
