-- `pack` packs the list of the maps found, which is the plan, where there is room for it.
use Rattle.std.proofs.Common.{◌≤◌, arith}
use Rattle.std.proofs.lemmas.Result.{err_from_is_err_and}
use Rattle.planning.proofs.NumberLaws.{told_maps, told_refused, told_sound, told_begun, told_packed}
use Rattle.planning.proofs.plan.pack.Goals as goal

pub returns-in_err-packed-clause-answer : goal.returns-in_err-packed-clause-answer
returns-in_err-packed-clause-answer c =
    let k = c.plan_maps-found.ensures.answer c.args.wanted.now c.requires in
    let told = told_maps k c.count-transactions.ensures.answer c.count-data_bytes.ensures.answer in
    let p = err_from_is_err_and c.from_residual.result c.from_residual.ensures.1 in
    rw (p.1, p.2) (told_refused c.args.plan.now told _ _ c.in_err-packed.ensures.answer).0

pub returns-in_err-packed-clause-memory : goal.returns-in_err-packed-clause-memory
returns-in_err-packed-clause-memory c =
    let k = c.plan_maps-found.ensures.answer c.args.wanted.now c.requires in
    let told = told_maps k c.count-transactions.ensures.answer c.count-data_bytes.ensures.answer in
    (told_refused c.args.plan.now told _ _ c.in_err-packed.ensures.answer).1

pub pack_spans-requires : goal.pack_spans-requires
pack_spans-requires c =
    let k = c.plan_maps-found.ensures.answer c.args.wanted.now c.requires in
    let told = told_maps k c.count-transactions.ensures.answer c.count-data_bytes.ensures.answer in
    let few : c.count-transactions.result ≤ 63 = omega (arith, k.few, c.requires.small, c.count-transactions.ensures.answer) in
    record {
      inside = k.inside;
      over = k.over;
      small = c.requires.small;
      sound = told_sound c.args.plan.now told c.in_ok-packed.ensures.answer few c.begin-first.result c.begin-first.ensures.answer;
      room = told_begun c.args.plan.now told c.in_ok-packed.ensures.answer few c.begin-first.result c.begin-first.ensures.answer;
    }

pub returns : goal.returns
returns c =
    let k = c.plan_maps-found.ensures.answer c.args.wanted.now c.requires in
    let told = told_maps k c.count-transactions.ensures.answer c.count-data_bytes.ensures.answer in
    let few : c.count-transactions.result ≤ 63 = omega (arith, k.few, c.requires.small, c.count-transactions.ensures.answer) in
    let a = told_packed c.args.plan.now told c.in_ok-packed.ensures.answer few c.begin-first.result c.begin-first.ensures.answer c.pack_spans.new.plan
    c.pack_spans.ensures.memory in
    record { answer = a.0; memory = a.1 }
