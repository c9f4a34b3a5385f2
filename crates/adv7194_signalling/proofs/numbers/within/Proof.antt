-- `numbers::within` meets its contract: the sign is tested, then the number. Assumes nothing.
use mathlib.Core.Path.{◌≡◌}
use mir.Syntax.{w32}
use mir.ValLaws.{to_z-of_z}
use Rattle.rounding.proofs.Range.{back}
use Rattle.adv7194_signalling.proofs.NumberLaws.{negative-outside, number-within, castable}
use Rattle.adv7194_signalling.proofs.numbers.within.Statement.{statement}
use Rattle.adv7194_signalling.proofs.numbers.within.Tie as tie

same : (c : tie.Start) → back w32 c.args.setting ≡ c.args.setting
same c = to_z-of_z w32 c.args.setting c.ranges.setting

returns : tie.Need-returns-then-setting-lt0
returns c = negative-outside c.args.top c.args.setting (rw (same c.before) at c.if-setting-lt0.true)

cast-result : tie.Need-overflow_cast-result
cast-result c = rw (same c.before) (castable c.args.setting c.ranges.setting (rw (same c.before) at c.if-setting-lt0.false))

returns-2 : tie.Need-returns
returns-2 c = rw (same c.before) (number-within c.args.top c.args.setting (rw (same c.before) at c.if-setting-lt0.false))

pub within_spec : {M : Type 1} → statement M
within_spec = tie.close (tie.spec
    returns
    cast-result
    returns-2)
