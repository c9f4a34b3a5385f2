-- `words::put_bridge` meets its contract: words and registers in a row. Assumes nothing.
use native.Mathlib.Omega.{arith}
use borrow.Author.Rules.{rules}
use Rattle.writing.proofs.Putting.{put, more, wider}
use Rattle.why_lines.specs.RegisterLine.{reason_text}
use Rattle.why_lines.specs.RegisterLine.{reason_width}
use Rattle.why_lines.proofs.words.put_bridge.Statement.{statement}
use Rattle.why_lines.proofs.words.put_bridge.Tie as tie

returns : tie.Need-returns
unfolding reason_text
returns c =
    let s = c in
    let a = c in
    let f = c in
    let w = c in
    let h = w.requires in
    let first = more (put w.put-word.ensures.0 w.put-word.ensures.1) f.put_hex-first.ensures (omega arith) in
    wider reason_width (omega arith) (more (more first (put a.put-and.ensures.0 a.put-and.ensures.1) (omega arith)) s.put_hex.ensures (omega arith))

pub put_bridge_spec : {M : Type 1} → statement M
put_bridge_spec =
    tie.close
    (tie.spec
    (λ c κs. search rules)
    (λ c κs. search rules)
    (λ c κs. search rules)
    (λ c κs. search rules)
    (λ c. search rules)
    returns)
