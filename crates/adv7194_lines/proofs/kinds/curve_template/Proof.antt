-- `kinds::curve_template` meets its contract: by the kind. Assumes nothing.
use mathlib.Core.Path.{refl}
use Rattle.adv7194_names.proofs.Choosing.{is_not, number_is}
use Rattle.adv7194_lines.specs.Templates.{curve_template}
use Rattle.adv7194_lines.proofs.kinds.curve_template.Statement.{statement}
use Rattle.adv7194_lines.proofs.kinds.curve_template.Tie as tie

returns : tie.Need-returns-in-0
unfolding curve_template
returns c = rw (number_is 0 c.args.kind c.ranges.kind.sfits refl c.in-0.in-0-own.keys1)

returns-2 : tie.Need-returns-in-1
unfolding curve_template
returns-2 c = rw (number_is 1 c.args.kind c.ranges.kind.sfits refl c.in-1.in-1-own.keys2)

returns-3 : tie.Need-returns-in_default
unfolding curve_template
returns-3 c =
    let z = c.args.kind in
    let h = c.in_default.in_default-own.rest in
    rw (is_not 0 z refl h.0.1, is_not 1 z refl h.1)

pub curve_template_spec : {M : Type 1} → statement M
curve_template_spec = tie.close (tie.spec
    returns
    returns-2
    returns-3)
