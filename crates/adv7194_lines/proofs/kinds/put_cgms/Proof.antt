-- `kinds::put_cgms` meets its contract: the payload and three yes/no in a row. Assumes nothing.
use native.Mathlib.Omega.{arith}
use Rattle.adv7194_names.specs.Values.{number, flag}
use Rattle.adv7194_lines.specs.Kinds.{cgms_text}
use Rattle.writing.proofs.Putting.{more, looked}
use borrow.Author.Rules.{rules}
use Rattle.adv7194_lines.proofs.kinds.put_cgms.Statement.{statement}
use Rattle.adv7194_lines.proofs.kinds.put_cgms.Tie as tie

returns : tie.Need-returns
unfolding cgms_text
returns c =
    let d4 = c in
    let d3 = c in
    let d2 = c in
    let d1 = c in
    let n4 = d4.number_at-4 in
    let n3 = d3.number_at-3 in
    let n2 = d2.number_at-2 in
    let n1 = d1.number_at in
    let start = c in
    let w1 = looked (number "CGMS ") n1.type_inv n1.ensures d1.put_number-payload.ensures in
    let w2 = more w1 (looked (flag " odd ") n2.type_inv n2.ensures d2.put_flag-odd.ensures) (omega (arith, start.requires.0)) in
    let w3 = more w2 (looked (flag " even ") n3.type_inv n3.ensures d3.put_flag-even.ensures) (omega (arith, start.requires.0)) in
    more w3 (looked (flag " chip check ") n4.type_inv n4.ensures d4.put_flag.ensures) start.requires.0

pub put_cgms_spec : {M : Type 1} → statement M
put_cgms_spec =
    tie.close
    (tie.spec
    (λ c. search rules)
    (λ c κs. search rules)
    (λ c κs. search rules)
    (λ c. search rules)
    (λ c κs. search rules)
    (λ c κs. search rules)
    (λ c. search rules)
    (λ c κs. search rules)
    (λ c κs. search rules)
    (λ c. search rules)
    (λ c κs. search rules)
    (λ c κs. search rules)
    (λ c. search rules)
    returns)
