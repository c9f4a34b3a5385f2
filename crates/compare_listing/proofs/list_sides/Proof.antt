-- `list_sides` meets its contract: the part of the scratch line that holds the text is appended. Assumes nothing.
use mathlib.Core.Path.{ap, ◌∙◌}
use borrow.Author.Rules.{rules}
use Rattle.text.specs.Line.{place_after, appended}
use Rattle.writing.proofs.Putting.{part}
use Rattle.compare_listing.proofs.list_sides.Statement.{statement}
use Rattle.compare_listing.proofs.list_sides.Tie as tie

returns : tie.Need-returns
returns c =
    let p = c in
    let w = c in
    let out = w.args.out.now in
    let e = part w.write_sides-end.ensures (search rules) in
    (p.append.ensures.0 ∙ ap (place_after out 0) e, p.append.ensures.1 ∙ ap (appended out 0) e)

pub list_sides_spec : {M : Type 1} → statement M
list_sides_spec =
    tie.close
    (tie.spec
    (λ c. search rules)
    (λ c κs. search rules)
    (λ c. search rules)
    (λ c. search rules)
    (λ c. search rules)
    (λ c κs. search rules)
    (λ c. search rules)
    returns)
