-- A byte to the master leaves the registers.
use Rattle.std.proofs.Common.{sym}
use Rattle.bus.specs.Chip.{step}
use Rattle.bus.proofs.StepLaws.{read_kept}
use Rattle.bus.proofs.chip.step.Goals as goal

pub returns-in-ToMaster-clause-memory : goal.returns-in-ToMaster-clause-memory
unfolding step
returns-in-ToMaster-clause-memory c = rw c.in-ToMaster.is (sym (read_kept _ _ _ _))
