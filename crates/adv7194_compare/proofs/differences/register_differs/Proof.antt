-- `differences::register_differs` meets its contract: never the read-only register, else its bits outside all fields. Assumes nothing.
use borrow.Author.Rules.{rules}
use Rattle.adv7194_compare.proofs.DifferenceLaws.{never_read_only, by_outside}
use Rattle.adv7194_compare.proofs.differences.register_differs.Statement.{statement}
use Rattle.adv7194_compare.proofs.differences.register_differs.Tie as tie

returns : tie.Need-returns-then-register-eq-READ_ONLY
returns c = let s = c.args in never_read_only s.a.now s.b.now c.if-register-eq-READ_ONLY.true

returns-2 : tie.Need-returns
returns-2 c =
    let e = c in
    let s = e.args in
    by_outside s.a.now s.b.now e.if-register-eq-READ_ONLY.false c.outside_bits.ensures c.outside_bits-2.ensures

pub register_differs_spec : {M : Type 1} → statement M
register_differs_spec = tie.close (tie.spec
    returns
    (λ c κs. search rules)
    (λ c κs. search rules)
    returns-2)
