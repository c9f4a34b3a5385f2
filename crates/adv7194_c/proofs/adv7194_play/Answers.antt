-- `adv7194_play`: what the library's playing promises of its answer holds of the numbers.
use Rattle.std.proofs.Common.{sym}
use mathlib.Core.Path.{subst}
use Rattle.adv7194_bus.specs.Board.{board_of}
use Rattle.adv7194_playing.specs.declared.PlanKind.TheVariants.{Settings}
use Rattle.adv7194_c.proofs.Playing.{Plays, plays}
use Rattle.adv7194_c.proofs.adv7194_play.Goals as goal

pub returns : goal.returns
returns c =
    let a = c.args in
    let board = board_of a.image.now a.known in
    subst (Plays Settings board a.used a.own a.plan.now c.play.new.image) (sym c.play_answer.ensures.answer)
    (plays Settings board a.used a.own a.plan.now c.play.new.image c.play.result c.play.ensures.answer c.play.ensures.memory)
