-- What an address does is the same whatever the registers; a stored byte is one at a register that the chip has.
use Rattle.std.proofs.Common.{sym, ◌∙◌, length}
use borrow.Author.Tests.{lt-ltb}
use Rattle.bus.specs.Chip.{from_master, step}
use Rattle.bus.specs.Lent.{kind_of}
use Rattle.bus.proofs.StepLaws.{address_kept}
use Rattle.bus.proofs.chip.from_master.Goals as goal

pub returns-in-AwaitAddress-clause-answer : goal.returns-in-AwaitAddress-clause-answer
unfolding step
returns-in-AwaitAddress-clause-answer c =
    let a = c.args in
    let n = length a.registers.now in
    rw c.in-AwaitAddress.is (c.addressed.ensures.answer a.dropped n ∙ sym (address_kept (kind_of a.own a.dropped n) a.state.pointer a.registers.now a.byte).0)

pub returns-then-pointer-registers-clause-memory : goal.returns-then-pointer-registers-clause-memory
unfolding step from_master
returns-then-pointer-registers-clause-memory c =
    let has = lt-ltb c.args.state.pointer (length c.args.registers.now) c.if-pointer-registers.true in
    rw (c.in-AwaitData.is, has) (rw has at (c.store.ensures.memory c.args.own))
