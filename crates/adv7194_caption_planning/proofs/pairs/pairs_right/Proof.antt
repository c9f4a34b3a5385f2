-- `pairs_right` meets its contract: one pair has characters where both have some together. Assumes nothing.
use mathlib.Core.Path.{ap₂}
use mathlib.Core.Bool.{◌&&◌}
use lib.ListN.{length}
use Rattle.adv7194_caption_planning.proofs.PairCounts.{some-given}
use Rattle.adv7194_caption_planning.proofs.pairs.pairs_right.Statement.{statement}
use Rattle.adv7194_caption_planning.proofs.pairs.pairs_right.Tie as tie

returns : tie.Need-returns
returns c =
    let a = c.args in
    ap₂ ◌&&◌ c.pair_right.ensures
    (ap₂ ◌&&◌ c.pair_right-2.ensures (some-given (length a.extended.now) (length a.ordinary.now)))

pub pairs_right_spec : {M : Type 1} → statement M
pairs_right_spec = tie.close (tie.spec
    (λ c κs. tt)
    (λ c κs. tt)
    returns)
