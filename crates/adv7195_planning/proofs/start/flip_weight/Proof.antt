-- `start::flip_weight` meets its contract: the counts of the maps are those of the plan. Assumes nothing.
use native.Mathlib.Omega.{arith}
use lib.Count.{ones-le}
use borrow.Author.Rules.{rules}
use Rattle.adv7195_planning.proofs.MapPlan.{flip_weight_lem}
use Rattle.adv7195_planning.proofs.start.flip_weight.Statement.{statement}
use Rattle.adv7195_planning.proofs.start.flip_weight.Tie as tie

returns : tie.Need-returns
returns c image wanted told =
    let n = c in
    let d = c in
    let s = c in
    let t = c in
    let b = c in
    let a = c in
    omega (
      arith,
      c.bus_bytes.ensures,
      n.count-transactions.ensures,
      d.count.ensures,
      flip_weight_lem image wanted told.change a.args.a b.beside.result a.requires (b.beside.ensures image wanted told) t.covered-taken.result
          s.starts-begun.result (search rules) (search rules) t.covered-taken.ensures s.starts-begun.ensures,
    )

pub flip_weight_spec : {M : Type 1} → statement M
flip_weight_spec =
    tie.close
    (tie.spec
    (λ c κs. search rules)
    (λ c κs. tt)
    (λ c κs. tt)
    (λ c κs. tt)
    (λ c. search rules)
    (λ c. omega (arith, c.count.ensures, ones-le 64 c.covered-taken.result (search rules)))
    (λ c κs. tt)
    (λ c. omega (arith, c.count-transactions.ensures, ones-le 64 c.starts-begun.result (search rules)))
    (λ c κs. tt)
    (λ c. search rules)
    (λ c. search rules)
    (λ c. search rules)
    returns)
