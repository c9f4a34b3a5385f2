-- `values::put_flag` meets its contract: the word and the yes/no in a row. Assumes nothing.
use Rattle.adv7194_names.specs.Values.{yes_no}
use Rattle.writing.proofs.Putting.{put, more, passed}
use borrow.Author.Rules.{rules}
use Rattle.adv7194_names.proofs.values.put_flag.Statement.{statement}
use Rattle.adv7194_names.proofs.values.put_flag.Tie as tie

returns : tie.Need-returns
returns c =
    let q = c in
    let p = c in
    let start = c in
    let a = start.args in
    more (put p.put-after.ensures.0 p.put-after.ensures.1) (passed yes_no a.n start.ranges.n.sfits q.put_yes.ensures) start.requires

pub put_flag_spec : {M : Type 1} → statement M
put_flag_spec = tie.close (tie.spec
    (λ c κs. search rules)
    (λ c κs. search rules)
    (λ c. search rules)
    returns)
