-- `house_reason` meets its contract: the checks find no fault of the house setting. Assumes nothing.
use mathlib.Core.Path.{ap, ◌∙◌}
use mathlib.Core.List.{List}
use lib.IntN.{ℤ}
use borrow.Author.Rules.{rules}
use Rattle.adv7194_bus.specs.Limit.{no_limit}
use Rattle.adv7194_reasons.specs.Why.{why_of}
use Rattle.house_listing.specs.HouseText.{board_in}
use Rattle.why_lines.proofs.CheckLaws.{house-passes}
use Rattle.why_lines.proofs.house_reason.Statement.{statement}
use Rattle.why_lines.proofs.house_reason.Tie as tie

returns : tie.Need-returns
returns c =
    let h = c in
    let start = c in
    let a = start.args in
    c.why.ensures.0 ∙ ap (λ (s : List ℤ). why_of (board_in a.image.now) s no_limit a.register) h.house-numbers.ensures
    ∙ house-passes a.image.now a.register start.requires

pub house_reason_spec : {M : Type 1} → statement M
house_reason_spec = tie.close (tie.spec
    (λ c κs. search rules)
    (λ c. search rules)
    (λ c κs. search rules)
    returns)
