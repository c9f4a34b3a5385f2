-- The room is that of the heading and the lines, which are written in a row.
use Rattle.std.proofs.Common.{◌≡◌, ◌∙◌, ◌+◌, ◌*◌, ◌≤◌, ◌<◌, ℕ, List, ◌++◌, length, arith, rules, length-append}
use mathlib.Core.List.{flat_map}
use Rattle.bus.specs.Transactions.{Transaction}
use Rattle.bus.specs.Cost.{data_count}
use Rattle.unpacking.specs.Listed.{listed}
use Rattle.unpacking.specs.Unpacking.{unpack}
use Rattle.text.proofs.Appending.{Written, answered, kept, next, refused}
use Rattle.plan_listing.specs.PlanText.{transaction_line}
use Rattle.plan_listing.proofs.TextLaws.{lines-length}
use Rattle.plan_listing.proofs.put_plan.Goals as goal

-- three bytes for each transaction and each datum, below the heading
both : (heading : List ℕ) (ts : List Transaction) (transactions bytes : ℕ) → length ts ≡ transactions → bytes ≡ data_count ts
    → length (heading ++ flat_map transaction_line ts) ≡ length heading + 3 * (transactions + bytes)
both heading ts transactions bytes h e = omega (arith, length-append heading (flat_map transaction_line ts), lines-length ts)

pub returns-in_err-room : goal.returns-in_err-room
returns-in_err-room c =
    let a = c.args in
    let ts = listed (unpack a.plan.now) in
    let short : length a.out.now < length a.heading.now = search rules in
    let r =
    refused a.out.now 0 (a.heading.now ++ flat_map transaction_line ts)
    (omega (arith, short, length-append a.heading.now (flat_map transaction_line ts))) in
    record { answer = c.from_residual.ensures ∙ r.0; memory = r.1 }

pub returns-then-room-transactions : goal.returns-then-room-transactions
returns-then-room-transactions c =
    let a = c.args in
    let ts = listed (unpack a.plan.now) in
    let long = both a.heading.now ts a.transactions c.data_bytes-data.result c.requires.1 c.data_bytes-data.ensures.answer in
    let room : length a.heading.now + c.in_ok-room.room ≡ length a.out.now = search rules in
    let r = refused a.out.now 0 (a.heading.now ++ flat_map transaction_line ts) (omega (arith, long, room, c.if-room-transactions.true)) in
    record { answer = r.0; memory = r.1 }

pub put_lines-requires : goal.put_lines-requires
put_lines-requires c =
    let a = c.args in
    let ts = listed (unpack a.plan.now) in
    let long = both a.heading.now ts a.transactions c.data_bytes-data.result c.requires.1 c.data_bytes-data.ensures.answer in
    let room : length a.heading.now + c.in_ok-room.room ≡ length a.out.now = search rules in
    let w : Written a.out.now 0 a.heading.now c.put-first.new.line c.put-first.result =
    record { fit = omega (arith, room); memory = c.put-first.ensures.memory; here = c.put-first.ensures.answer } in
    (c.requires.0, omega (arith, long, room, c.if-room-transactions.false, length-append a.heading.now (flat_map transaction_line ts), kept w, w.here))

pub returns : goal.returns
returns c =
    let a = c.args in
    let ts = listed (unpack a.plan.now) in
    let long = both a.heading.now ts a.transactions c.data_bytes-data.result c.requires.1 c.data_bytes-data.ensures.answer in
    let room : length a.heading.now + c.in_ok-room.room ≡ length a.out.now = search rules in
    let w : Written a.out.now 0 a.heading.now c.put-first.new.line c.put-first.result =
    record { fit = omega (arith, room); memory = c.put-first.ensures.memory; here = c.put-first.ensures.answer } in
    let fit : c.put-first.result + length (flat_map transaction_line ts) ≤ length a.out.now =
    omega (arith, long, room, c.if-room-transactions.false, length-append a.heading.now (flat_map transaction_line ts), w.here) in
    let r = answered (next w (flat_map transaction_line ts) fit c.put_lines.ensures.memory c.put_lines.ensures.answer) in
    record { answer = r.0; memory = r.1 }
