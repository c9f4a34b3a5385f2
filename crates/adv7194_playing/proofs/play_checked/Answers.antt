-- At the chip's own address the image becomes the copy into which the data were written, with the map that the walk made; at another, and after a refusal,
-- both are left.
use Rattle.std.proofs.Common.{List, ℕ, sym, ap, ◌∙◌, subst}
use Rattle.std.proofs.lemmas.Result.{err_from_is_err_and}
use Rattle.unpacking.specs.Unpacking.{unpack}
use Rattle.unpacking.proofs.PlanLaws.{refused-list}
use Rattle.playing.specs.Playing.{judged_if}
use Rattle.playing.proofs.Faults.{plan_fault}
use Rattle.playing.proofs.Played.{played_elsewhere}
use Rattle.adv7194_bus.specs.Board.{board_of}
use Rattle.adv7194_playing.specs.Playing.{takes, call_of}
use Rattle.adv7194_playing.specs.Written.{Written}
use Rattle.adv7194_playing.proofs.WrittenRun.{as_left, own_played}
use Rattle.adv7194_playing.proofs.play_checked.Goals as goal

pub returns-in_err-walk : goal.returns-in_err-walk
returns-in_err-walk c =
    let a = c.args in
    let r = c.requires in
    let p = err_from_is_err_and c.from_residual.result c.from_residual.ensures.1 in
    let l =
    as_left
    (plan_fault (call_of (takes a.kind) (board_of a.image.now a.known) a.used a.own a.plan.now) a.known r.0 r.1 r.2 _
    (refused-list (judged_if (takes a.kind) (unpack a.plan.now)) _ (sym c.in_err-walk.ensures.answer))) in
    rw (p.1, p.2) (record { answer = l.0; memory = l.1 })

pub returns-then-used-own : goal.returns-then-used-own
returns-then-used-own c =
    let a = c.args in
    let r = c.requires in
    let l =
    as_left
    (played_elsewhere (call_of (takes a.kind) (board_of a.image.now a.known) a.used a.own a.plan.now) a.known r.0 r.1 r.2 c.if-used-own.true _
    (sym c.in_ok-walk.ensures.answer)) in
    record { answer = l.0; memory = l.1 }

pub returns : goal.returns
returns c =
    let a = c.args in
    let r = c.requires in
    let b = board_of a.image.now a.known in
    let after = board_of c.write_plan.new.registers c.in_ok-walk.walk.known in
    let w =
    subst (λ (l : List ℕ). Written (judged_if (takes a.kind) (unpack a.plan.now)) (board_of l a.known) after) c.copied-registers.ensures.answer
    c.in_ok-walk.ensures.memory in
    let l = own_played a.kind b a.used a.own c.if-used-own.false a.plan.now r.0 r.1 r.2 _ _ (sym c.in_ok-walk.ensures.answer) w in
    record { answer = l.0; memory = ap (λ (x : List ℕ). board_of x c.in_ok-walk.walk.known) c.copy_from_slice.ensures.after ∙ l.1 }
