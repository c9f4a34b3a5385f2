-- `count` meets its contract: the ones of both maps. Assumes nothing.
use mathlib.Core.Path.{ap, ap₂, ◌∙◌}
use Prim.Native.Nat.{ℕ, ◌+◌}
use lib.Count.{ones}
use borrow.Author.Rules.{rules}
use Rattle.compare_listing.proofs.LineLaws.{field-count, register-count}
use Rattle.compare_listing.proofs.count.Statement.{statement}
use Rattle.compare_listing.proofs.count.Tie as tie

returns : tie.Need-returns
returns c =
    let r = c in
    let n = c in
    let f = c in
    let a = f.args.a.now in
    let b = f.args.b.now in
    ap₂ (λ (x y : ℕ). x + y) (n.count-fields.ensures ∙ ap ones f.fields_differing.ensures ∙ field-count a b)
    (c.count-registers.ensures ∙ ap ones r.registers_differing.ensures ∙ register-count a b)

pub count_spec : {M : Type 1} → statement M
count_spec =
    tie.close
    (tie.spec
    (λ c κs. search rules)
    (λ c. search rules)
    (λ c κs. search rules)
    (λ c κs. search rules)
    (λ c κs. search rules)
    (λ c. search rules)
    (λ c. search rules)
    (λ c. search rules)
    returns)
