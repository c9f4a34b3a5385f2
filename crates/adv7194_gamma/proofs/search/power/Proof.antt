-- `search::power` meets its contract: the product is the power, and it has a bound. Assumes nothing.
use mathlib.Core.Path.{◌≡◌, ap₂}
use Prim.Native.Nat.{ℕ, ◌*◌}
use native.Mathlib.Omega.{arith}
use borrow.Author.Rules.{rules}
use Rattle.adv7194_gamma.proofs.Powers.{both, both_power, first-le, both_le}
use Rattle.adv7194_gamma.proofs.search.power.Statement.{statement}
use Rattle.adv7194_gamma.proofs.search.power.Tie as tie

mul-result : tie.Need-overflow_mul-result
mul-result c =
    rw c.factor.ensures (omega (arith, first-le c.args.b c.args.e c.requires.0 c.requires.1))

-- the product of all three
product : (c : tie.After-factor-2) → c.args.b * c.factor.result * c.factor-2.result
    ≡ both c.args.b c.args.e
product c = ap₂ (λ (x y : ℕ). c.args.b * x * y) c.factor.ensures c.factor-2.ensures

mul-result-2 : tie.Need-overflow_mul-result-2
mul-result-2 c =
    let a = c.args in
    let pre = c.requires in
    rw (product c) (omega (arith, both_le a.b a.e pre.0 pre.1 pre.2))

returns : tie.Need-returns
returns c =
    let a = c.args in
    let pre = c.requires in
    rw (product c) (both_power a.b a.e pre.1 pre.2, both_le a.b a.e pre.0 pre.1 pre.2)

pub power_spec : {M : Type 1} → statement M
power_spec = tie.close (tie.spec
    (λ c κs. search rules)
    mul-result
    (λ c κs. search rules)
    mul-result-2
    returns)
