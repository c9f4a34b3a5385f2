-- `write_plan` is a walk that writes the data of each transaction that the kind takes, and marks its registers.
use Rattle.adv7194_playing.proofs.WrittenLaws.{Passed}
use Rattle.adv7194_playing.proofs.write_plan.Given as goal

abbrev pub invariant-loop-found : goal.invariant-loop-found
invariant-loop-found l = Passed l.kind l.plan l.initial.map l.initial.registers l.map l.registers l.cursor l.transactions

abbrev pub decreases-loop-found : goal.decreases-loop-found
decreases-loop-found l = l.cursor.left
