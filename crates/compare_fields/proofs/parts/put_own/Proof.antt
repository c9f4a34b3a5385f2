-- `parts::put_own` meets its contract: nothing for a register of which the field has no bits, else a space and its byte. Assumes nothing.
use native.Mathlib.Omega.{arith}
use borrow.Author.Rules.{rules}
use Rattle.writing.proofs.Putting.{same_text, unwritten}
use Rattle.compare_fields.proofs.PartLaws.{own_none, own_some}
use Rattle.compare_fields.proofs.parts.put_own.Statement.{statement}
use Rattle.compare_fields.proofs.parts.put_own.Tie as tie

returns : tie.Need-returns-then-own_mask-eq0
returns c =
    let start = c in
    let a = start.args in
    same_text (own_none a.image.now a.field a.register c.own_mask.ensures c.if-own_mask-eq0.true)
    (unwritten a.line.now a.at (omega (arith, start.requires.0)))

returns-2 : tie.Need-returns
returns-2 c =
    let p = c in
    let o = c in
    let e = c in
    let a = e.args in
    same_text (own_some a.image.now a.field a.register e.own_mask.ensures e.if-own_mask-eq0.false o.own_bits.ensures) p.put_byte.ensures

pub put_own_spec : {M : Type 1} → statement M
put_own_spec =
    tie.close
    (tie.spec
    (λ c κs. search rules)
    returns
    (λ c κs. search rules)
    (λ c κs. search rules)
    (λ c. search rules)
    returns-2)
