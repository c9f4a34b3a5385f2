-- `registers::held_registers` meets its contract. Assumes nothing.
use Rattle.adv7194_planning.proofs.RegisterMaps.{held_none, held-some}
use Rattle.adv7194_planning.proofs.registers.held_registers.Statement.{statement}
use Rattle.adv7194_planning.proofs.registers.held_registers.Tie as tie

returns : tie.Need-returns-then-needed-eq0
returns c = held_none c.args.needed c.if-needed-eq0.true

returns-2 : tie.Need-returns
returns-2 c = held-some c.args.needed c.if-needed-eq0.false

pub held_registers_spec : {M : Type 1} → statement M
held_registers_spec = tie.close (tie.spec
    returns
    returns-2)
