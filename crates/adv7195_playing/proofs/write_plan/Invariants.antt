-- `write_plan` is a walk that writes the data of each transaction that keeps the rule and the order.
use Rattle.adv7195_playing.proofs.WrittenLaws.{Passed}
use Rattle.adv7195_playing.proofs.write_plan.Given as goal

abbrev pub invariant-loop-found : goal.invariant-loop-found
invariant-loop-found l = Passed l.plan l.initial.registers l.prepared l.registers l.cursor l.transactions

abbrev pub decreases-loop-found : goal.decreases-loop-found
decreases-loop-found l = l.cursor.left
