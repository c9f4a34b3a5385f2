-- `registers::needed_registers` meets its contract. Assumes nothing.
use native.Mathlib.Omega.{arith}
use Rattle.adv7194_planning.proofs.RegisterMaps.{none_in_word, some_in_word}
use Rattle.adv7194_planning.proofs.registers.needed_registers.Statement.{statement}
use Rattle.adv7194_planning.proofs.registers.needed_registers.Tie as tie

returns : tie.Need-returns-then-must-eq0
returns c = none_in_word c.args.must c.if-must-eq0.true

returns-2 : tie.Need-returns
returns-2 c = some_in_word c.args.must (omega arith) c.if-must-eq0.false

pub needed_registers_spec : {M : Type 1} → statement M
needed_registers_spec = tie.close (tie.spec
    returns
    returns-2)
