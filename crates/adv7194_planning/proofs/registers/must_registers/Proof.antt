-- `registers::must_registers` meets its contract. Assumes nothing.
use Rattle.adv7194_planning.proofs.RegisterMaps.{must-has}
use Rattle.adv7194_planning.proofs.registers.must_registers.Statement.{statement}
use Rattle.adv7194_planning.proofs.registers.must_registers.Tie as tie

returns : tie.Need-returns
returns c = must-has c.args.changed c.args.known c.args.fixed c.ranges.known.fits c.ranges.fixed.fits

pub must_registers_spec : {M : Type 1} → statement M
must_registers_spec = tie.close (tie.spec
    returns)
