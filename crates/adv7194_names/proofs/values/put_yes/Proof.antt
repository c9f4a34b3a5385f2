-- `values::put_yes` meets its contract: the number chooses what is written. Assumes nothing.
use mathlib.Core.Path.{refl}
use native.Mathlib.Omega.{arith}
use Rattle.text.specs.Text.{signed}
use Rattle.writing.specs.Put.{number_width}
use Rattle.adv7194_names.proofs.Choosing.{is_it, is_not, yes_zero, yes_one, yes_other}
use Rattle.writing.proofs.Putting.{put, wider, same_text, passed}
use borrow.Author.Rules.{rules}
use Rattle.adv7194_names.proofs.values.put_yes.Statement.{statement}
use Rattle.adv7194_names.proofs.values.put_yes.Tie as tie

returns : tie.Need-returns-then-n-eq0
returns c =
    let p = c in
    let t = c in
    let start = c in
    let e = yes_zero start.args.n (is_it 0 start.args.n start.ranges.n refl t.if-n-eq0.true) in
    same_text e (wider number_width (omega arith) (put p.put.ensures.0 p.put.ensures.1))

returns-2 : tie.Need-returns-then-n-eq1
returns-2 c =
    let p = c in
    let t = c in
    let start = c in
    let z = start.args.n in
    let e = yes_one z (is_not 0 z refl t.if-n-eq0.false) (is_it 1 z start.ranges.n refl t.if-n-eq1.true) in
    same_text e (wider number_width (omega arith) (put p.put-then-n-eq1.ensures.0 p.put-then-n-eq1.ensures.1))

returns-3 : tie.Need-returns
returns-3 c =
    let p = c in
    let t = c in
    let start = c in
    let z = start.args.n in
    let e = yes_other z (is_not 0 z refl t.if-n-eq0.false) (is_not 1 z refl t.if-n-eq1.false) in
    same_text e (passed signed z start.ranges.n.sfits p.put_signed.ensures)

pub put_yes_spec : {M : Type 1} → statement M
put_yes_spec =
    tie.close
    (tie.spec
    (λ c κs. search rules)
    (λ c. search rules)
    returns
    (λ c κs. search rules)
    (λ c. search rules)
    returns-2
    (λ c κs. search rules)
    (λ c. search rules)
    returns-3)
