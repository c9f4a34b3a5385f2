-- What `transaction` answers, by the room for what was found.
use Rattle.std.proofs.Common.{◌∙◌, ℕ, sym, ap, length, arith}
use Rattle.bits.specs.Strings.{first_bytes}
use Rattle.bits.proofs.ByteLaws.{first_bytes-length}
use Rattle.refusals.specs.Refusal.{Judged, accepted}
use Rattle.bus.specs.Transactions.{Transaction}
use Rattle.unpacking.specs.Unpacking.{unpack_by}
use Rattle.unpacking.specs.Places.{left_at}
use Rattle.unpacking.specs.Steps.{start_after}
use Rattle.unpacking.specs.Indexed.{header_of, data_after}
use Rattle.unpacking.proofs.PlaceLaws.{data_copied_lem}
use Rattle.unpacking.proofs.IndexLaws.{no_room, with_found, sets_front}
use Rattle.unpacking.proofs.indexed.transaction.Goals as goal

pub returns-then-memory-count-clause-answer : goal.returns-then-memory-count-clause-answer
returns-then-memory-count-clause-answer c =
    let e = rw c.in-Some.is at c.in_ok-found.ensures.answer in
    sym (ap header_of (no_room c.args.plan.now (unpack_by (start_after c.args.order) c.args.plan.now) c.args.index (length c.args.memory.now) c.in-Some.found e
    c.if-memory-count.true))

pub returns-then-memory-count-clause-memory : goal.returns-then-memory-count-clause-memory
returns-then-memory-count-clause-memory c =
    let e = rw c.in-Some.is at c.in_ok-found.ensures.answer in
    rw (no_room c.args.plan.now (unpack_by (start_after c.args.order) c.args.plan.now) c.args.index (length c.args.memory.now) c.in-Some.found e
    c.if-memory-count.true)

pub returns-clause-answer : goal.returns-clause-answer
returns-clause-answer c =
    let e = rw c.in-Some.is at c.in_ok-found.ensures.answer in
    let f = c.in-Some.found in
    let plan = c.args.plan.now in
    ap (λ (n : ℕ). accepted (record { subaddress = f.subaddress; count = n })) (sym (first_bytes-length f.count (left_at plan f.«data»)))
    ∙ sym (ap header_of (with_found plan (unpack_by (start_after c.args.order) plan) c.args.index (length c.args.memory.now) f e c.if-memory-count.false))

pub returns-clause-memory : goal.returns-clause-memory
returns-clause-memory c =
    let e = rw c.in-Some.is at c.in_ok-found.ensures.answer in
    let p = rw c.in-Some.is at c.in_ok-found.ensures.placed in
    let f = c.in-Some.found in
    let plan = c.args.plan.now in
    let memory = c.args.memory.now in
    let size = first_bytes-length f.count (left_at plan f.«data») in
    c.copy_data.ensures.memory
    ∙ data_copied_lem plan f.«data» memory 0 f.count p.0 p.1 (omega (arith, c.if-memory-count.false))
    ∙ sets_front (first_bytes f.count (left_at plan f.«data»)) memory (omega (arith, size, c.if-memory-count.false))
    ∙ sym (ap (λ (j : Judged Transaction). data_after j memory)
    (with_found plan (unpack_by (start_after c.args.order) plan) c.args.index (length memory) f e c.if-memory-count.false))
