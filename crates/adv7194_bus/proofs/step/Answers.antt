-- A chip that is handed the map of dropped registers does what the ADV7194 does.
use Rattle.std.proofs.Common.{ap, ◌∙◌, rules}
use Rattle.bus.specs.Chip.{Outcome}
use Rattle.bus.specs.Lent.{stepped_of}
use Rattle.adv7194_bus.proofs.KindLaws.{step_map}
use Rattle.adv7194_bus.proofs.step.Goals as goal

pub returns-clause-answer : goal.returns-clause-answer
returns-clause-answer c =
    let a = c.args in c.step.ensures.answer ∙ ap stepped_of (step_map a.own a.state a.registers.now a.event (search rules))

pub returns-clause-memory : goal.returns-clause-memory
returns-clause-memory c =
    let a = c.args in c.step.ensures.memory ∙ ap (λ (o : Outcome). o.chip.registers) (step_map a.own a.state a.registers.now a.event (search rules))
