-- `lines::register_text` meets its contract: the register and both bytes by a template. Assumes nothing.
use native.Mathlib.Omega.{arith}
use borrow.Author.Rules.{rules}
use Rattle.writing.proofs.Putting.{same_text}
use Rattle.template.specs.Template.{widths}
use Rattle.compare_listing.proofs.LineLaws.{register-filled}
use Rattle.compare_listing.proofs.lines.register_text.Statement.{statement}
use Rattle.compare_listing.proofs.lines.register_text.Tie as tie

fill-requires : tie.Need-fill-requires
unfolding widths
fill-requires c κs = (omega (arith, c.requires.0), omega arith)

returns : tie.Need-returns
unfolding widths
returns c =
    let p = c in
    let y = c in
    let x = c in
    let start = c in
    let a = start.args in
    same_text
    (register-filled a.a.now a.b.now a.register x.outside_bits.ensures y.outside_bits-2.ensures (omega (arith, start.requires.1))
    (search rules) (search rules)) p.fill.ensures

pub register_text_spec : {M : Type 1} → statement M
register_text_spec =
    tie.close
    (tie.spec
    (λ c. search rules)
    (λ c κs. search rules)
    (λ c. search rules)
    (λ c κs. search rules)
    (λ c. search rules)
    (λ c. search rules)
    fill-requires
    (λ c. search rules)
    returns)
