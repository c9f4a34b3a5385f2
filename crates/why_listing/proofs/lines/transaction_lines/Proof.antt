-- `lines::transaction_lines` meets its contract: the transaction's line and its registers' in a row. Assumes nothing.
use Prim.Native.Nat.{◌+◌, ◌*◌}
use native.Mathlib.Omega.{arith}
use borrow.Author.Rules.{rules}
use Rattle.bus.specs.Transactions.{Transaction, size}
use Rattle.plan_listing.specs.PlanText.{transaction_line}
use Rattle.plan_listing.proofs.TextLaws.{line_length}
use Rattle.writing.specs.Put.{Put}
use Rattle.writing.proofs.Putting.{more}
use Rattle.why_listing.proofs.lines.transaction_lines.Statement.{statement}
use Rattle.why_listing.proofs.lines.transaction_lines.Tie as tie

returns : tie.Need-returns
returns c =
    let r = c in
    let p = c in
    let start = c in
    let a = start.args in
    let t : Transaction = record { subaddress = a.subaddress; bytes = a.bytes.now } in
    let long = line_length t in
    let e = p.put_line-sent.ensures.0 in
    let first : Put (3 * (size t + 1)) a.line.now a.at (transaction_line t) p.put_line-sent.new.out p.put_line-sent.result =
    record { answer = omega arith; memory = p.put_line-sent.ensures.1; most = omega arith } in
    more first r.register_lines.ensures (omega (arith, start.requires.0))

pub transaction_lines_spec : {M : Type 1} → statement M
transaction_lines_spec = tie.close (tie.spec
    (λ c κs. search rules)
    (λ c. search rules)
    (λ c κs. search rules)
    (λ c. search rules)
    returns)
