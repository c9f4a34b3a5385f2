-- `adv7194_why`: what the library promises of its answer holds of the numbers.
use Rattle.std.proofs.Common.{sym}
use mathlib.Core.Path.{subst}
use Rattle.adv7194_bus.specs.Board.{board_of}
use Rattle.adv7194_c.proofs.Explaining.{Explains, explains}
use Rattle.adv7194_c.proofs.adv7194_why.Goals as goal

pub returns : goal.returns
returns c =
    let a = c.args in
    let board = board_of a.image.now a.known in
    subst (Explains board a.settings.now a.limit a.subaddress) (sym c.why_answer.ensures.answer)
    (explains board a.settings.now a.limit a.subaddress c.why.result c.why.ensures.answer c.why.ensures.reason)
