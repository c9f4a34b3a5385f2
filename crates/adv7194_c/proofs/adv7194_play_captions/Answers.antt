-- `adv7194_play_captions`: what the library's playing promises of its answer holds of the numbers.
use Rattle.std.proofs.Common.{sym}
use mathlib.Core.Path.{subst}
use Rattle.adv7194_bus.specs.Board.{board_of}
use Rattle.adv7194_playing.specs.declared.PlanKind.TheVariants.{Captions}
use Rattle.adv7194_c.proofs.Playing.{Plays, plays}
use Rattle.adv7194_c.proofs.adv7194_play_captions.Goals as goal

pub returns : goal.returns
returns c =
    let a = c.args in
    let board = board_of a.image.now a.known in
    subst (Plays Captions board a.used a.own a.plan.now c.play_captions.new.image) (sym c.play_answer.ensures.answer)
    (plays Captions board a.used a.own a.plan.now c.play_captions.new.image c.play_captions.result c.play_captions.ensures.answer c.play_captions.ensures.memory)
