-- `scaled::least_times` meets its contract: the least multiple of the magnitude, with the sign. Assumes nothing.
use mathlib.Core.Path.{◌≡◌}
use Prim.Native.Nat.{ℕ}
use lib.IntN.{ℤ, nat_abs}
use mir.Syntax.{w32}
use mir.Val.{SFits}
use mir.ValLaws.{to_z-of_z}
use Rattle.rounding.specs.Nearest.{LeastMultiple}
use Rattle.rounding.proofs.Range.{back}
use Rattle.field_table.proofs.Signed.{as_signed, negated_fits, negated}
use Rattle.adv7194_codes.proofs.ScaledLaws.{least-fits, magnitude_is, sign_below, sign-above}
use Rattle.adv7194_codes.proofs.scaled.least_times.Goals as goal

-- what was found, of the steps' own magnitude
of_steps : (n d u r : ℕ) (s : ℤ) → SFits w32 s → u ≡ nat_abs (back w32 s) → LeastMultiple n d u r → LeastMultiple n d (nat_abs s) r
of_steps n d u r s f e least = let q : u ≡ nat_abs s = rw (to_z-of_z w32 s f) at e in rw q at least

pub overflow_cast-magnitude : goal.overflow_cast-magnitude
overflow_cast-magnitude c =
    let r = c.least_multiple-magnitude.result in
    let least = of_steps _ _ _ r c.args.steps c.ranges.steps c.unsigned_abs.ensures.value c.least_multiple-magnitude.ensures.answer in
    record { sfits = least-fits _ _ _ r c.requires.0 c.requires.1 c.requires.2 least }

pub overflow_sub-result : goal.overflow_sub-result
overflow_sub-result c =
    let r = c.least_multiple-magnitude.result in
    let least = of_steps _ _ _ r c.args.steps c.ranges.steps c.unsigned_abs.ensures.value c.least_multiple-magnitude.ensures.answer in
    negated_fits r (least-fits _ _ _ r c.requires.0 c.requires.1 c.requires.2 least)

pub returns-then-steps-lt0-clause-least : goal.returns-then-steps-lt0-clause-least
returns-then-steps-lt0-clause-least c =
    let r = c.least_multiple-magnitude.result in
    let least = of_steps _ _ _ r c.args.steps c.ranges.steps c.unsigned_abs.ensures.value c.least_multiple-magnitude.ensures.answer in
    rw (negated r (least-fits _ _ _ r c.requires.0 c.requires.1 c.requires.2 least), magnitude_is r) least

pub returns-then-steps-lt0-clause-sign : goal.returns-then-steps-lt0-clause-sign
returns-then-steps-lt0-clause-sign c =
    let r = c.least_multiple-magnitude.result in
    let least = of_steps _ _ _ r c.args.steps c.ranges.steps c.unsigned_abs.ensures.value c.least_multiple-magnitude.ensures.answer in
    rw (negated r (least-fits _ _ _ r c.requires.0 c.requires.1 c.requires.2 least))
    (sign_below c.args.steps r (rw (to_z-of_z w32 c.args.steps c.ranges.steps) at c.if-steps-lt0.true))

pub returns-else-steps-lt0-clause-least : goal.returns-else-steps-lt0-clause-least
returns-else-steps-lt0-clause-least c =
    let r = c.least_multiple-magnitude.result in
    let least = of_steps _ _ _ r c.args.steps c.ranges.steps c.unsigned_abs.ensures.value c.least_multiple-magnitude.ensures.answer in
    rw (as_signed r (least-fits _ _ _ r c.requires.0 c.requires.1 c.requires.2 least)) least

pub returns-else-steps-lt0-clause-sign : goal.returns-else-steps-lt0-clause-sign
returns-else-steps-lt0-clause-sign c =
    let r = c.least_multiple-magnitude.result in
    let least = of_steps _ _ _ r c.args.steps c.ranges.steps c.unsigned_abs.ensures.value c.least_multiple-magnitude.ensures.answer in
    rw (as_signed r (least-fits _ _ _ r c.requires.0 c.requires.1 c.requires.2 least))
    (sign-above c.args.steps r (rw (to_z-of_z w32 c.args.steps c.ranges.steps) at c.if-steps-lt0.false))
