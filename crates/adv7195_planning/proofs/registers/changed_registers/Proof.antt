-- `registers::changed_registers` meets its contract: every register is compared. Assumes nothing.
use mathlib.Core.Path.{◌∙◌}
use borrow.Author.Rules.{rules}
use Rattle.adv7195_planning.proofs.RegisterMaps.{all-compared}
use Rattle.adv7195_planning.proofs.registers.changed_registers.Statement.{statement}
use Rattle.adv7195_planning.proofs.registers.changed_registers.Tie as tie

returns : tie.Need-returns
returns c i =
    let s = c in
    c.differing.ensures i ∙ all-compared s.args.image.now s.args.wanted.now s.requires i

pub changed_registers_spec : {M : Type 1} → statement M
changed_registers_spec = tie.close (tie.spec
    (λ c. search rules)
    (λ c κs. search rules)
    returns)
