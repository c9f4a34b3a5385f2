-- `cut_run`: each round is the plan's next transaction.
use Rattle.std.proofs.Common.{get_or, arith}
use Rattle.cutting.proofs.CutLaws.{cut_round, stop_inside}
use Rattle.cutting.proofs.cuts.cut_run.Goals as goal

pub with_span-cut-requires : goal.with_span-cut-requires
with_span-cut-requires c =
    let at = c.loop-at.at in
    let stop = get_or c.run_ends-ends.result at 0 in
    let known = c.run_ends-ends.ensures.answer at c.loop-at.invariant.from c.loop-at-test.true (c.loop-at.invariant.need c.loop-at-test.true) in
    let inside = stop_inside c.args.needed c.args.held c.args.limit c.args.end at stop c.loop-at-test.true known in
    (inside.0, omega (arith, inside.1))

pub overflow_shr-needed : goal.overflow_shr-needed
overflow_shr-needed c =
    let at = c.loop-at.at in
    let stop = get_or c.run_ends-ends.result at 0 in
    let known = c.run_ends-ends.ensures.answer at c.loop-at.invariant.from c.loop-at-test.true (c.loop-at.invariant.need c.loop-at-test.true) in
    let inside = stop_inside c.args.needed c.args.held c.args.limit c.args.end at stop c.loop-at-test.true known in
    omega (arith, inside.1)

pub loop-at-smaller : goal.loop-at-smaller
loop-at-smaller c =
    let at = c.loop-at.at in
    let stop = get_or c.run_ends-ends.result at 0 in
    let known = c.run_ends-ends.ensures.answer at c.loop-at.invariant.from c.loop-at-test.true (c.loop-at.invariant.need c.loop-at-test.true) in
    let inside = stop_inside c.args.needed c.args.held c.args.limit c.args.end at stop c.loop-at-test.true known in
    omega (arith, inside.0, inside.1)

pub loop-at-preserved : goal.loop-at-preserved
loop-at-preserved c =
    let at = c.loop-at.at in
    let stop = get_or c.run_ends-ends.result at 0 in
    let known = c.run_ends-ends.ensures.answer at c.loop-at.invariant.from c.loop-at-test.true (c.loop-at.invariant.need c.loop-at-test.true) in
    let cut = c.with_span-cut in
    cut_round c.args.needed c.args.held c.args.limit c.args.first c.args.end c.args.spans.taken c.args.spans.starts c.loop-at.cut.taken c.loop-at.cut.starts
    cut.result.taken cut.result.starts at stop c.lowest.result c.ranges.needed.fits c.requires.0.1.0 c.loop-at-test.true known c.lowest.ensures.answer
    cut.ensures.taken cut.ensures.starts c.loop-at.invariant
