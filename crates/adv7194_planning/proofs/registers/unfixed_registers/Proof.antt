-- `registers::unfixed_registers` meets its contract. Assumes nothing.
use Rattle.adv7194_planning.proofs.RegisterMaps.{unfixed_has}
use Rattle.adv7194_planning.proofs.registers.unfixed_registers.Statement.{statement}
use Rattle.adv7194_planning.proofs.registers.unfixed_registers.Tie as tie

returns : tie.Need-returns
returns c = unfixed_has c.args.partly c.args.known c.ranges.partly.fits c.ranges.known.fits

pub unfixed_registers_spec : {M : Type 1} → statement M
unfixed_registers_spec = tie.close (tie.spec
    returns)
