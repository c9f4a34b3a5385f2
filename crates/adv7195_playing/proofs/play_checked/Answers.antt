-- At the chip's own address the image becomes the copy into which the data were written; at another, and after a refusal, it is left.
use Rattle.std.proofs.Common.{ℕ, List, sym, ap, ◌∙◌, subst}
use Rattle.std.proofs.lemmas.Result.{err_from_is_err_and}
use Rattle.unpacking.specs.Unpacking.{counted}
use Rattle.unpacking.proofs.PlanLaws.{refused-list}
use Rattle.playing.specs.Playing.{judged_if}
use Rattle.playing.proofs.Faults.{plan_fault}
use Rattle.playing.proofs.Played.{played_elsewhere}
use Rattle.adv7195_playing.specs.Playing.{unpacked, takes, call_of}
use Rattle.adv7195_playing.specs.Written.{Written}
use Rattle.adv7195_playing.proofs.PlayedLaws.{no_map, own_played}
use Rattle.adv7195_playing.proofs.play_checked.Goals as goal

pub returns-in_err-transactions : goal.returns-in_err-transactions
returns-in_err-transactions c =
    let a = c.args in
    let r = c.requires in
    let p = err_from_is_err_and c.from_residual.result c.from_residual.ensures.1 in
    let e =
    c.in_err-transactions.ensures.answer ∙ ap (λ (l : List ℕ). counted (judged_if (takes l) (unpacked a.plan.now))) c.copied-registers.ensures.answer in
    let l =
    plan_fault (call_of a.image.now a.used a.own a.plan.now) no_map r.0 r.1 r.2 _
    (refused-list (judged_if (takes a.image.now) (unpacked a.plan.now)) _ (sym e)) in
    rw (p.1, p.2) (record { answer = l.answer; memory = l.stored })

pub returns-then-used-own : goal.returns-then-used-own
returns-then-used-own c =
    let a = c.args in
    let r = c.requires in
    let e =
    c.in_ok-transactions.ensures.answer ∙ ap (λ (l : List ℕ). counted (judged_if (takes l) (unpacked a.plan.now))) c.copied-registers.ensures.answer in
    let l = played_elsewhere (call_of a.image.now a.used a.own a.plan.now) no_map r.0 r.1 r.2 c.if-used-own.true _ (sym e) in
    record { answer = l.answer; memory = l.stored }

pub returns : goal.returns
returns c =
    let a = c.args in
    let r = c.requires in
    let e =
    c.in_ok-transactions.ensures.answer ∙ ap (λ (l : List ℕ). counted (judged_if (takes l) (unpacked a.plan.now))) c.copied-registers.ensures.answer in
    let w =
    subst (λ (l : List ℕ). Written (judged_if (takes l) (unpacked a.plan.now)) l c.write_plan.new.registers) c.copied-registers.ensures.answer
    c.in_ok-transactions.ensures.memory in
    let l = own_played a.image.now a.used a.own c.if-used-own.false a.plan.now r.0 r.1 r.2 _ _ (sym e) w in
    record { answer = l.0; memory = c.copy_from_slice.ensures.after ∙ l.1 }
