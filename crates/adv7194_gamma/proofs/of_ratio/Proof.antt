-- `of_ratio` meets its contract: a byte at each of the seven places. Assumes nothing.
use borrow.Author.Rules.{rules}
use Rattle.adv7194_gamma.specs.Curve.{bytes_of}
use Rattle.adv7194_gamma.proofs.of_ratio.Statement.{statement}
use Rattle.adv7194_gamma.proofs.of_ratio.Tie as tie

returns : tie.Need-returns
unfolding bytes_of
returns c =
    let four = c in
    let three = c in
    rw (
      three.byte_at-b0.ensures,
      three.byte_at-b1.ensures,
      three.byte_at-b2.ensures,
      four.byte_at-b3.ensures,
      c.byte_at-b4.ensures,
      c.byte_at-b5.ensures,
      c.byte_at-b6.ensures,
    )

pub of_ratio_spec : {M : Type 1} → statement M
of_ratio_spec =
    tie.close
    (tie.spec
    (λ c κs. search rules)
    (λ c κs. search rules)
    (λ c κs. search rules)
    (λ c κs. search rules)
    (λ c κs. search rules)
    (λ c κs. search rules)
    (λ c κs. search rules)
    returns)
