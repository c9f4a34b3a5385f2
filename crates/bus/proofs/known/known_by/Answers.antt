-- A register at which a byte is stored is below the chip's count; a byte that is read makes none known.
use Rattle.std.proofs.Common.{[], sym, ◌∙◌, arith}
use Rattle.bus.specs.Chip.{step}
use Rattle.bus.specs.Known.{known_by}
use Rattle.bus.proofs.KnownLaws.{sent_not_stored, stored-below}
use Rattle.bus.proofs.known.known_by.Goals as goal

pub mark-requires : goal.mark-requires
mark-requires c = omega (arith, stored-below _ c.args.state.phase _ 0 (sym (c.stored.ensures.answer 0 [] 0) ∙ c.if-stored.true))

pub returns-in-ToMaster : goal.returns-in-ToMaster
unfolding known_by step
returns-in-ToMaster c = record { answer = λ own bytes. rw (c.in-ToMaster.is, sent_not_stored) }
