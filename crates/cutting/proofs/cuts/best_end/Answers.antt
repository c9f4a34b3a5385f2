-- `best_end`: leading zeros find the highest candidate.
use Rattle.std.proofs.Common.{arith, refl, suc}
use Rattle.cutting.proofs.HighestLaws.{highest_is}
use Rattle.cutting.proofs.cuts.best_end.Goals as goal

pub overflow_sub-result-2 : goal.overflow_sub-result-2
overflow_sub-result-2 c = (highest_is c.args.candidates c.min-last.result (suc c.args.start) _ (omega arith) (omega arith) c.requires.1 refl).0

pub returns : goal.returns
returns c =
    let h = (highest_is c.args.candidates c.min-last.result (suc c.args.start) _ (omega arith) (omega arith) c.requires.1 refl).1 in
    record { answer = rw (← c.min-last.ensures) h }
