-- What is found before the plan, and then what the plan is judged as, decides the row that is given.
use Rattle.std.proofs.Common.{length}
use Rattle.std.proofs.lemmas.Result.{err_from_is_err_and}
use Rattle.playing.proofs.Faults.{exactly_played}
use Rattle.playing.proofs.Checking.{call_fault, call_right}
use Rattle.adv7194_bus.specs.Kind.{register_count}
use Rattle.adv7194_bus.specs.Board.{board_of}
use Rattle.adv7194_playing.specs.Playing.{takes, call_of}
use Rattle.adv7194_playing.proofs.Rows.{plan-judged}
use Rattle.adv7194_playing.proofs.WrittenRun.{as_left}
use Rattle.adv7194_playing.proofs.play_kind.Goals as goal

pub returns-in_err-check_call : goal.returns-in_err-check_call
returns-in_err-check_call c =
    let a = c.args in
    let b = board_of a.image.now a.known in
    let call = call_of (takes a.kind) b a.used a.own a.plan.now in
    let p = err_from_is_err_and c.from_residual.result c.from_residual.ensures.1 in
    let l = as_left (call_fault call a.known c.in_err-check_call.ensures.answer) in
    rw (p.1, p.2)
    (record { answer = l.0; memory = l.1; exactly = exactly_played call l.0; taken = plan-judged a.kind b a.used a.own a.plan.now })

pub play_checked-requires : goal.play_checked-requires
play_checked-requires c = call_right (length c.args.image.now) register_count c.args.used c.args.own c.in_ok-check_call.ensures.answer

pub returns : goal.returns
returns c =
    let a = c.args in
    let b = board_of a.image.now a.known in
    let call = call_of (takes a.kind) b a.used a.own a.plan.now in
    let p = c.play_checked.ensures in
    record { answer = p.answer; memory = p.memory; exactly = exactly_played call p.answer; taken = plan-judged a.kind b a.used a.own a.plan.now }
