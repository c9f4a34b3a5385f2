-- What is found before the plan, and then what the plan is judged as, decides the row that is given.
use Rattle.std.proofs.Common.{length}
use Rattle.std.proofs.lemmas.Result.{err_from_is_err_and}
use Rattle.playing.proofs.Faults.{exactly_played}
use Rattle.playing.proofs.Checking.{call_fault, call_right}
use Rattle.adv7195_bus.specs.Kind.{register_count}
use Rattle.adv7195_playing.specs.Playing.{call_of}
use Rattle.adv7195_playing.proofs.PlayedLaws.{no_map}
use Rattle.adv7195_playing.proofs.Rows.{plan-judged}
use Rattle.adv7195_playing.proofs.play.Goals as goal

pub returns-in_err-check_call : goal.returns-in_err-check_call
returns-in_err-check_call c =
    let a = c.args in
    let call = call_of a.image.now a.used a.own a.plan.now in
    let p = err_from_is_err_and c.from_residual.result c.from_residual.ensures.1 in
    let l = call_fault call no_map c.in_err-check_call.ensures.answer in
    rw (p.1, p.2)
    (record { answer = l.answer; memory = l.stored; exactly = exactly_played call l.answer; taken = plan-judged a.image.now a.used a.own a.plan.now })

pub play_checked-requires : goal.play_checked-requires
play_checked-requires c = call_right (length c.args.image.now) register_count c.args.used c.args.own c.in_ok-check_call.ensures.answer

pub returns : goal.returns
returns c =
    let a = c.args in
    let call = call_of a.image.now a.used a.own a.plan.now in
    let p = c.play_checked.ensures in
    record { answer = p.answer; memory = p.memory; exactly = exactly_played call p.answer; taken = plan-judged a.image.now a.used a.own a.plan.now }
