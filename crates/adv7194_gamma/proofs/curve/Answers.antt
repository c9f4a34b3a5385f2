-- `curve` meets its contract: p and q of 1 to 3 have the curve of their pair, all others none. Assumes nothing.
use mathlib.Core.Path.{◌≡◌, sym, ap₂, ◌∙◌}
use mathlib.Core.List.{List}
use mathlib.Core.Bool.{Bool, true, ◌&&◌}
use Prim.Native.Nat.{ℕ, ◌+◌, ◌*◌}
use lib.IntN.{ℤ, nat_abs}
use mir.Syntax.{w32}
use mir.Val.{SFits}
use mir.ValLaws.{to_z-of_z}
use Rattle.refusals.specs.Refusal.{accepted}
use Rattle.rounding.proofs.Range.{back}
use Rattle.field_table.specs.Blocks.{between}
use Rattle.adv7194_gamma.specs.Power.{Ratio}
use Rattle.adv7194_gamma.specs.Curve.{bytes_of, curve_of, NearestBytes}
use Rattle.adv7194_gamma.proofs.Answers.{p_inside, q_inside, accepting, refusing}
use Rattle.adv7194_gamma.proofs.curve.Goals as goal

-- the flags are those of the arguments
flags : (p q : ℤ) (a b : Bool) → SFits w32 p → SFits w32 q → a ≡ between 1 3 (back w32 p) → b ≡ between 1 3 (back w32 q)
    → (a && b) ≡ (between 1 3 p && between 1 3 q)
flags p q a b hp hq ea eb = ap₂ ◌&&◌ (rw (to_z-of_z w32 p hp) at ea) (rw (to_z-of_z w32 q hq) at eb)

-- where both hold, the pair's bytes are the ratio's
found : (p q : ℤ) (bytes : List ℕ) → SFits w32 p → SFits w32 q → (between 1 3 p && between 1 3 q) ≡ true
    → ((n m : ℕ) → Ratio n m → 3 * nat_abs (back w32 p) + nat_abs (back w32 q) ≡ 3 * n + m → bytes ≡ bytes_of n m)
    → (accepted bytes ≡ curve_of p q) × NearestBytes p q (accepted bytes)
found p q bytes hp hq both h =
    let i = p_inside p q both in
    let j = q_inside p q both in
    accepting p q bytes both
    (h (nat_abs p) (nat_abs q) (record { p_low = i.low; p_high = i.high; q_low = j.low; q_high = j.high }) (rw (to_z-of_z w32 p hp, to_z-of_z w32 q hq)))

pub returns-then-inside-clause-answer : goal.returns-then-inside-clause-answer
returns-then-inside-clause-answer c =
    let a = c.args in
    let both = sym (flags a.p a.q _ _ c.ranges.p c.ranges.q c.inside.ensures.answer c.inside-2.ensures.answer) ∙ c.if-inside.true in
    (found a.p a.q _ c.ranges.p c.ranges.q both c.of_pair.ensures.answer).0

pub returns-then-inside-clause-nearest : goal.returns-then-inside-clause-nearest
returns-then-inside-clause-nearest c =
    let a = c.args in
    let both = sym (flags a.p a.q _ _ c.ranges.p c.ranges.q c.inside.ensures.answer c.inside-2.ensures.answer) ∙ c.if-inside.true in
    (found a.p a.q _ c.ranges.p c.ranges.q both c.of_pair.ensures.answer).1

pub returns-clause-answer : goal.returns-clause-answer
returns-clause-answer c =
    let a = c.args in
    refusing a.p a.q (sym (flags a.p a.q _ _ c.ranges.p c.ranges.q c.inside.ensures.answer c.inside-2.ensures.answer) ∙ c.if-inside.false)
