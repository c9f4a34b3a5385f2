-- `run_ends`: each round adds a register to the table of what it weighs to end before each, and to the candidates.
use Rattle.std.proofs.Common.{◌≡◌, suc, ◌-◌, get_or, refl, arith}
use Rattle.std.specs.Prelude.{replicate}
use Rattle.bits.specs.Maps.{has}
use Rattle.cutting.specs.Cuts.{most_weight}
use Rattle.cutting.proofs.CandidateLaws.{candidates_first}
use Rattle.cutting.proofs.TableLaws.{either, table-begin, table_bound, rest_bound, round}
use Rattle.cutting.proofs.cuts.run_ends.Goals as goal

pub loop-at-init : goal.loop-at-init
loop-at-init c =
    table-begin c.args.needed c.args.held c.args.limit c.args.end c.args.first (replicate 64 0) (replicate 64 0) c.end_weight.result c.requires.1.0
    (omega arith) refl refl c.end_weight.ensures.answer

pub best_end-stop-requires : goal.best_end-stop-requires
best_end-stop-requires c =
    let t = c.loop-at.invariant in
    let e : suc (c.loop-at.at - 1) ≡ c.loop-at.at = omega arith in (
      ((omega (arith, t.to), c.requires.1.0), (omega arith, omega arith)),
      rw e (candidates_first (λ i. get_or c.loop-at.weights i 0) c.loop-at.candidates c.loop-at.at c.args.end t.to t.best),
    )

pub rest_weight-rest-requires : goal.rest_weight-rest-requires
rest_weight-rest-requires c =
    let t = c.loop-at.invariant in
    let i = t.best.inside c.best_end-stop.result c.best_end-stop.ensures.answer.is in
    let b = table_bound c.args.needed c.args.held c.args.limit c.args.end c.requires.1.0 t c.best_end-stop.result i.0 i.1 in
    (omega (arith, t.to), (omega (arith, b.0, i.0), omega (arith, b.1)))

pub end_weight-requires-in-loop-at : goal.end_weight-requires-in-loop-at
end_weight-requires-in-loop-at c =
    let t = c.loop-at.invariant in
    let i = t.best.inside c.best_end-stop.result c.best_end-stop.ensures.answer.is in
    let b = table_bound c.args.needed c.args.held c.args.limit c.args.end c.requires.1.0 t c.best_end-stop.result i.0 i.1 in
    let r = rest_bound c.args.needed c.args.held c.args.limit c.args.end c.requires.1.0 t in (
      omega (arith, t.to),
      rw c.rest_weight-rest.ensures.answer (either (has c.args.needed (c.loop-at.at - 1)) _ c.loop-at.rest most_weight (omega (arith, b.1)) (omega (arith, r))),
    )

pub loop-at-preserved : goal.loop-at-preserved
loop-at-preserved c =
    round c.args.needed c.args.held c.args.limit c.args.end c.args.first c.loop-at.ends c.loop-at.weights c.loop-at.rest c.loop-at.candidates c.loop-at.at
    c.best_end-stop.result c.rest_weight-rest.result c.end_weight-in-loop-at.result c.with_candidate-candidates.result c.requires.1.0 (omega arith) (omega arith)
    c.loop-at.invariant c.best_end-stop.ensures.answer c.rest_weight-rest.ensures.answer c.end_weight-in-loop-at.ensures.answer
    c.with_candidate-candidates.ensures.answer
