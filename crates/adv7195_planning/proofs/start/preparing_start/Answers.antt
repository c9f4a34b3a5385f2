-- Each start is weighed, and the first least of all was found.
use Rattle.std.proofs.Common.{◌≡◌, ℕ, ◌-◌, subst, arith}
use Rattle.cutting.specs.Cuts.{first_least}
use Rattle.adv7195_least.specs.Plan.{preparing_start}
use Rattle.adv7195_planning.proofs.StartLaws.{weight_at, same_least}
use Rattle.adv7195_planning.proofs.start.preparing_start.Goals as goal

pub returns-clause-answer : goal.returns-clause-answer
unfolding preparing_start
returns-clause-answer c = λ image wanted told.
    let all : c.loop-a.a ≡ 10 = omega arith in
    subst (λ (a : ℕ). c.loop-a.best ≡ first_least (weight_at image wanted) (a - 5) 4) all (same_least (c.loop-a.invariant.found image wanted told).first)
