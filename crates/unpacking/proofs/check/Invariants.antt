-- `check` is a walk that counts the transactions passed.
use Rattle.unpacking.specs.declared.steps.Order.TheVariants.{Ascending}
use Rattle.unpacking.proofs.Walking.{Passed}
use Rattle.unpacking.proofs.check.Given as goal

abbrev pub invariant-loop-transaction : goal.invariant-loop-transaction
invariant-loop-transaction l = Passed l.plan Ascending l.cursor l.transactions

abbrev pub decreases-loop-transaction : goal.decreases-loop-transaction
decreases-loop-transaction l = l.cursor.left
