-- `find` is a walk that remembers the transaction with the index.
use Rattle.unpacking.proofs.IndexLaws.{Looking}
use Rattle.unpacking.proofs.indexed.find.Given as goal

abbrev pub invariant-loop-transaction : goal.invariant-loop-transaction
invariant-loop-transaction l = Looking l.plan l.fn.order l.index l.cursor l.found l.i

abbrev pub decreases-loop-transaction : goal.decreases-loop-transaction
decreases-loop-transaction l = l.cursor.left
