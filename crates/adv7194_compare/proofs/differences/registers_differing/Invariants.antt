-- `differences::registers_differing`: the map so far, and what the registers that are left add, is the whole map.
use Rattle.adv7194_compare.specs.Differences.{register_differs}
use Rattle.adv7194_compare.proofs.DifferenceLaws.{Gathering}
use Rattle.adv7194_compare.proofs.differences.registers_differing.Given as goal

abbrev pub invariant-loop-register : goal.invariant-loop-register
invariant-loop-register l = Gathering (register_differs l.a l.b) 0 54 l.map l.register
