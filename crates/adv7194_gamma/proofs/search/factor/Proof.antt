-- `search::factor` meets its contract. Assumes nothing.
use borrow.Author.Tests.{lt-ltb, le-ltb}
use Rattle.adv7194_gamma.proofs.search.factor.Statement.{statement}
use Rattle.adv7194_gamma.proofs.search.factor.Tie as tie

returns : tie.Need-returns-then-k-e
returns c = rw (lt-ltb c.args.k c.args.e c.if-k-e.true)

returns-2 : tie.Need-returns-else-k-e
returns-2 c = rw (le-ltb c.args.k c.args.e c.if-k-e.false)

pub factor_spec : {M : Type 1} → statement M
factor_spec = tie.close (tie.spec
    returns
    returns-2)
