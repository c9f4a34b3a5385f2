-- `search::below_half` meets its contract: the four powers are the definition's, and their products fit. Assumes nothing.
use native.Mathlib.Nat.{mul-le-mul}
use native.Mathlib.Omega.{arith}
use borrow.Author.Rules.{rules}
use Rattle.adv7194_gamma.specs.Power.{below_half}
use Rattle.adv7194_gamma.proofs.search.below_half.Statement.{statement}
use Rattle.adv7194_gamma.proofs.search.below_half.Tie as tie

mul-result : tie.Need-overflow_mul-result
mul-result c = omega (arith, mul-le-mul c.power.ensures.1 c.power-2.ensures.1)

mul-result-2 : tie.Need-overflow_mul-result-2
mul-result-2 c = omega (arith, mul-le-mul c.power-3.ensures.1 c.power-4.ensures.1)

returns : tie.Need-returns
unfolding below_half
returns c = rw (c.power.ensures.0, c.power-2.ensures.0, c.power-3.ensures.0, c.power-4.ensures.0)

pub below_half_spec : {M : Type 1} → statement M
below_half_spec =
    tie.close
    (tie.spec
    (λ c. search rules)
    (λ c κs. search rules)
    (λ c κs. search rules)
    mul-result
    (λ c. search rules)
    (λ c. search rules)
    (λ c κs. search rules)
    (λ c κs. search rules)
    mul-result-2
    returns)
