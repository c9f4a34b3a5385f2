-- `plan_maps`: where no more registers are covered than the limit, the plan is the one that joins gaps; else the one with the cuts found.
use Rattle.std.proofs.Common.{◌≤◌, sym, ap, ◌∙◌, arith, rules}
use Rattle.bus.specs.Cost.{data_count}
use Rattle.planning.specs.Plan.{joined_by}
use Rattle.planning.proofs.PlanLaws.{mapped}
use Rattle.planning.proofs.JoinedLaws.{joined_mapped, few-joined}
use Rattle.planning.proofs.plan.plan_maps.Goals as goal

pub returns-then-count-limit : goal.returns-then-count-limit
returns-then-count-limit c = record {
  answer = λ w π.
      let k = joined_mapped c.args.needed c.args.allowed c.covered-covered.result c.starts-starts.result w c.covered-covered.type_inv c.starts-starts.type_inv
      π.writable c.covered-covered.ensures.answer c.starts-starts.ensures.answer π.inside in
      let few : data_count (joined_by c.args.needed c.args.allowed w) ≤ c.args.limit =
      omega (arith, sym (ap data_count k.list) ∙ k.bytes, c.count.ensures.answer, c.if-count-limit.true) in
      rw (few-joined c.args.needed c.args.allowed c.args.held c.args.limit w π few) k;
}

pub returns : goal.returns
returns c = record {
  answer = λ w π.
      let e = c.plan_spans.ensures.answer w π in
      mapped c.args.needed c.args.allowed c.args.held c.args.limit w c.plan_spans.result.taken c.plan_spans.result.starts π (search rules) (search rules) e.0 e.1;
}
