-- `with_candidate`: the lowest candidate that is left stays where it weighs less, and goes where it doesn't.
use Rattle.std.proofs.Common.{ℕ, get_or, arith}
use Rattle.cutting.proofs.CandidateLaws.{kept_less, kept_low, kept-none, fewer}
use Rattle.cutting.proofs.LowestLaws.{first-is}
use Rattle.cutting.proofs.SpanLaws.{one_more}
use Rattle.cutting.proofs.cuts.with_candidate.Goals as goal

pub returns-then-weights-low : goal.returns-then-weights-low
returns-then-weights-low c =
    let low = first-is c.loop-kept.kept c.lowest-low.result (omega (arith, c.loop-kept-test.true))
    (omega (arith, c.loop-kept.invariant.small, c.ranges.candidates.fits)) c.lowest-low.ensures.answer in
    record {
      answer = λ end h.
          kept_low (λ (i : ℕ). get_or c.args.weights.now i 0) c.args.candidates c.args.at c.loop-kept.kept c.lowest-low.result _ end h low c.if-weights-low.true
          c.loop-kept.invariant (λ i. one_more c.loop-kept.kept c.args.at i (omega arith));
    }

pub loop-kept-smaller : goal.loop-kept-smaller
loop-kept-smaller c =
    let low = first-is c.loop-kept.kept c.lowest-low.result (omega (arith, c.loop-kept-test.true))
    (omega (arith, c.loop-kept.invariant.small, c.ranges.candidates.fits)) c.lowest-low.ensures.answer in
    fewer c.loop-kept.kept c.lowest-low.result low.near low.first

pub loop-kept-preserved : goal.loop-kept-preserved
loop-kept-preserved c =
    let low = first-is c.loop-kept.kept c.lowest-low.result (omega (arith, c.loop-kept-test.true))
    (omega (arith, c.loop-kept.invariant.small, c.ranges.candidates.fits)) c.lowest-low.ensures.answer in
    kept_less (λ (i : ℕ). get_or c.args.weights.now i 0) c.args.candidates c.args.at c.loop-kept.kept c.lowest-low.result c.ranges.candidates.fits low.near
    c.if-weights-low.false c.loop-kept.invariant

pub returns : goal.returns
returns c = record {
  answer = λ end h.
      kept-none (λ (i : ℕ). get_or c.args.weights.now i 0) c.args.candidates c.args.at c.loop-kept.kept end h (omega arith) (omega (arith, c.loop-kept-test.false))
      c.loop-kept.invariant;
}
