-- `compose`: what reading answers chooses what is written. Assumes nothing.
use Rattle.std.proofs.Common.{refl, replicate, pos}
use Rattle.adv7194_bus.specs.Board.{board_of}
use Rattle.writing.proofs.Putting.{same_text}
use Rattle.adv7194_listing.proofs.TextLaws.{text_read, text_refused}
use Rattle.adv7194_listing.proofs.compose.Goals as goal

pub returns-in-Ok : goal.returns-in-Ok
returns-in-Ok c =
    let e = text_read (board_of c.args.image.now c.args.known) (replicate 49 (pos 0)) refl c.in-Ok.ensures.answer c.in-Ok.ensures.memory in
    record { written = same_text e c.setting_lines.ensures.written }

pub returns-in-Err : goal.returns-in-Err
returns-in-Err c =
    let e = text_refused (board_of c.args.image.now c.args.known) (replicate 49 (pos 0)) refl _ _ c.in-Err.ensures.answer in
    record { written = same_text e c.refused_text.ensures.written }
