-- `registers::allowed_registers` meets its contract. Assumes nothing.
use Rattle.adv7194_planning.proofs.RegisterMaps.{allowed-has}
use Rattle.adv7194_planning.proofs.registers.allowed_registers.Statement.{statement}
use Rattle.adv7194_planning.proofs.registers.allowed_registers.Tie as tie

returns : tie.Need-returns
returns c i = allowed-has c.args.known c.args.fixed i

pub allowed_registers_spec : {M : Type 1} → statement M
allowed_registers_spec = tie.close (tie.spec
    returns)
