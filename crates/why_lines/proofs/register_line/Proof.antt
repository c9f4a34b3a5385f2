-- `register_line` meets its contract: the register and its reason in a row. Assumes nothing.
use mathlib.Core.Path.{ap}
use native.Mathlib.Omega.{arith}
use borrow.Author.Rules.{rules}
use Rattle.writing.proofs.Putting.{put, more, wider, same_text}
use Rattle.why_lines.specs.RegisterLine.{register_line}
use Rattle.why_lines.specs.RegisterLine.{answer_words, register_width}
use Rattle.why_lines.proofs.register_line.Statement.{statement}
use Rattle.why_lines.proofs.register_line.Tie as tie

returns : tie.Need-returns
unfolding register_line
returns c =
    let e = c in
    let p = c in
    let w = c in
    let s = c in
    let n = c in
    let h = n.requires.0 in
    let number = more n.put_hex-number.ensures (put s.put-spaced.ensures.0 s.put-spaced.ensures.1) (omega arith) in
    let reason = more number (same_text (ap answer_words w.house_reason.ensures) p.put_reason-reason.ensures) (omega arith) in
    wider register_width (omega arith) (more reason (put e.put.ensures.0 e.put.ensures.1) (omega arith))

pub register_line_spec : {M : Type 1} → statement M
register_line_spec =
    tie.close
    (tie.spec
    (λ c κs. search rules)
    (λ c κs. search rules)
    (λ c κs. search rules)
    (λ c κs. search rules)
    (λ c κs. search rules)
    (λ c. search rules)
    returns)
