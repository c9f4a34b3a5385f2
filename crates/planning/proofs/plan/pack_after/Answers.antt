-- `pack_after` packs one transaction and then the runs of the registers covered, where there is room for them.
use Rattle.std.proofs.Common.{◌+◌, ◌≤◌, arith}
use Rattle.std.proofs.lemmas.Result.{err_from_is_err_and}
use Rattle.bus.specs.Transactions.{Transaction}
use Rattle.planning.specs.Plan.{list_of, without}
use Rattle.planning.proofs.NumberLaws.{told_after, told_refused, told_fits, told_sound, told_room}
use Rattle.planning.proofs.JoinedLaws.{joined_mapped, first-room, later-room, later-done}
use Rattle.planning.proofs.plan.pack_after.Goals as goal

pub returns-in_err-packed-clause-answer : goal.returns-in_err-packed-clause-answer
returns-in_err-packed-clause-answer c =
    let t : Transaction = record { subaddress = c.args.start; bytes = c.args.bytes.now } in
    let k = joined_mapped c.args.needed c.args.allowed c.covered-taken.result c.starts-starts.result c.args.wanted.now c.covered-taken.type_inv c.starts-starts.type_inv
    c.requires.writable c.covered-taken.ensures.answer c.starts-starts.ensures.answer c.requires.inside in
    let told = told_after t k c.count-transactions.ensures.answer c.count.ensures.answer in
    let p = err_from_is_err_and c.from_residual.result c.from_residual.ensures.1 in
    rw (p.1, p.2) (told_refused c.args.plan.now told _ _ c.in_err-packed.ensures.answer).0

pub returns-in_err-packed-clause-memory : goal.returns-in_err-packed-clause-memory
returns-in_err-packed-clause-memory c =
    let t : Transaction = record { subaddress = c.args.start; bytes = c.args.bytes.now } in
    let k = joined_mapped c.args.needed c.args.allowed c.covered-taken.result c.starts-starts.result c.args.wanted.now c.covered-taken.type_inv c.starts-starts.type_inv
    c.requires.writable c.covered-taken.ensures.answer c.starts-starts.ensures.answer c.requires.inside in
    let told = told_after t k c.count-transactions.ensures.answer c.count.ensures.answer in
    (told_refused c.args.plan.now told _ _ c.in_err-packed.ensures.answer).1

pub pack_transaction-first-requires : goal.pack_transaction-first-requires
pack_transaction-first-requires c =
    let t : Transaction = record { subaddress = c.args.start; bytes = c.args.bytes.now } in
    let k = joined_mapped c.args.needed c.args.allowed c.covered-taken.result c.starts-starts.result c.args.wanted.now c.covered-taken.type_inv c.starts-starts.type_inv
    c.requires.writable c.covered-taken.ensures.answer c.starts-starts.ensures.answer c.requires.inside in
    let told = told_after t k c.count-transactions.ensures.answer c.count.ensures.answer in
    let few : c.count-transactions.result + 1 ≤ 63 = omega (arith, k.few, c.requires.small, c.count-transactions.ensures.answer) in
    let fits = told_fits c.args.plan.now told c.in_ok-packed.ensures.answer in
    let others = list_of c.covered-taken.result (without c.covered-taken.result c.starts-starts.result) c.args.wanted.now in (
      told_sound c.args.plan.now told c.in_ok-packed.ensures.answer few c.begin-begun.result c.begin-begun.ensures.answer,
      omega (arith, c.requires.start),
      omega (arith, c.requires.short),
      first-room t others c.args.plan.now c.begin-begun.result (c.count-transactions.result + 1) few told.counted c.begin-begun.ensures.answer fits,
    )

pub pack_spans-requires : goal.pack_spans-requires
pack_spans-requires c =
    let t : Transaction = record { subaddress = c.args.start; bytes = c.args.bytes.now } in
    let k = joined_mapped c.args.needed c.args.allowed c.covered-taken.result c.starts-starts.result c.args.wanted.now c.covered-taken.type_inv c.starts-starts.type_inv
    c.requires.writable c.covered-taken.ensures.answer c.starts-starts.ensures.answer c.requires.inside in
    let told = told_after t k c.count-transactions.ensures.answer c.count.ensures.answer in
    let few : c.count-transactions.result + 1 ≤ 63 = omega (arith, k.few, c.requires.small, c.count-transactions.ensures.answer) in
    let fits = told_fits c.args.plan.now told c.in_ok-packed.ensures.answer in
    let others = list_of c.covered-taken.result (without c.covered-taken.result c.starts-starts.result) c.args.wanted.now in
    let put = c.pack_transaction-first in
    record {
      inside = k.inside;
      over = k.over;
      small = omega (arith, c.requires.small);
      sound = put.ensures.answer.sound;
      room = later-room t others c.args.plan.now c.begin-begun.result (c.count-transactions.result + 1) few told.counted c.begin-begun.ensures.answer fits put.new.plan
          put.result put.auto.plan put.ensures.answer;
    }

pub returns : goal.returns
returns c =
    let t : Transaction = record { subaddress = c.args.start; bytes = c.args.bytes.now } in
    let k = joined_mapped c.args.needed c.args.allowed c.covered-taken.result c.starts-starts.result c.args.wanted.now c.covered-taken.type_inv c.starts-starts.type_inv
    c.requires.writable c.covered-taken.ensures.answer c.starts-starts.ensures.answer c.requires.inside in
    let told = told_after t k c.count-transactions.ensures.answer c.count.ensures.answer in
    let few : c.count-transactions.result + 1 ≤ 63 = omega (arith, k.few, c.requires.small, c.count-transactions.ensures.answer) in
    let fits = told_fits c.args.plan.now told c.in_ok-packed.ensures.answer in
    let others = list_of c.covered-taken.result (without c.covered-taken.result c.starts-starts.result) c.args.wanted.now in
    let put = c.pack_transaction-first in
    let a = told_room c.args.plan.now told c.in_ok-packed.ensures.answer c.pack_spans.new.plan
    (later-done t others c.args.plan.now c.begin-begun.result (c.count-transactions.result + 1) few told.counted c.begin-begun.ensures.answer fits put.new.plan
    put.result put.auto.plan put.ensures.answer c.pack_spans.new.plan c.pack_spans.ensures.memory) in
    record { answer = a.0; memory = a.1 }
