-- `plan_spans`: each round finds the transactions of the next run of the registers covered.
use Rattle.std.proofs.Common.{◌≡◌, arith}
use Rattle.planning.proofs.OnesLaws.{next-is}
use Rattle.planning.proofs.FoundLaws.{map-low, found_none, run-found, run-low, found-more, found-whole, found-cut, found_all}
use Rattle.planning.proofs.spans.plan_spans.Goals as goal

pub loop-rest-init : goal.loop-rest-init
loop-rest-init c = found_none c.args.needed c.args.allowed c.args.held c.args.limit c.covered-rest.result c.covered-rest.ensures.answer c.requires

pub cut_run-found-requires : goal.cut_run-found-requires
cut_run-found-requires c =
    let l = c.loop-rest in
    let map = c.covered-rest.result in
    let small = map-low c.args.needed c.args.allowed c.args.held c.args.limit map c.covered-rest.ensures.answer c.requires c.covered-rest.type_inv in
    let t = next-is map l.from l.rest c.lowest-gap.result c.run-size.result small l.invariant.is (omega (arith, c.loop-rest-test.true)) c.lowest-gap.ensures.answer
    c.run-size.ensures.answer in
    let ends = run-low c.args.needed c.args.allowed c.args.held c.args.limit map c.covered-rest.ensures.answer c.requires l.found.taken l.found.starts l.rest l.from
    c.lowest-gap.result c.run-size.result l.invariant t in (
      (omega (arith, t.some), (omega (arith, ends), (c.requires.some, c.requires.most))),
      (run-found c.args.needed c.args.allowed c.args.held c.args.limit map c.covered-rest.ensures.answer c.requires l.found.taken l.found.starts l.rest l.from
          c.lowest-gap.result c.run-size.result l.invariant t).first,
    )

pub with_span-found-requires : goal.with_span-found-requires
with_span-found-requires c =
    let l = c.loop-rest in
    let map = c.covered-rest.result in
    let small = map-low c.args.needed c.args.allowed c.args.held c.args.limit map c.covered-rest.ensures.answer c.requires c.covered-rest.type_inv in
    let t = next-is map l.from l.rest c.lowest-gap.result c.run-size.result small l.invariant.is (omega (arith, c.loop-rest-test.true)) c.lowest-gap.ensures.answer
    c.run-size.ensures.answer in
    let ends = run-low c.args.needed c.args.allowed c.args.held c.args.limit map c.covered-rest.ensures.answer c.requires l.found.taken l.found.starts l.rest l.from
    c.lowest-gap.result c.run-size.result l.invariant t in
    (omega (arith, t.some), omega (arith, ends))

pub overflow_shr-rest : goal.overflow_shr-rest
overflow_shr-rest c =
    let l = c.loop-rest in
    let map = c.covered-rest.result in
    let small = map-low c.args.needed c.args.allowed c.args.held c.args.limit map c.covered-rest.ensures.answer c.requires c.covered-rest.type_inv in
    let t = next-is map l.from l.rest c.lowest-gap.result c.run-size.result small l.invariant.is (omega (arith, c.loop-rest-test.true)) c.lowest-gap.ensures.answer
    c.run-size.ensures.answer in
    t.short

pub loop-rest-smaller-then-size-limit : goal.loop-rest-smaller-then-size-limit
loop-rest-smaller-then-size-limit c =
    let l = c.loop-rest in
    let map = c.covered-rest.result in
    let small = map-low c.args.needed c.args.allowed c.args.held c.args.limit map c.covered-rest.ensures.answer c.requires c.covered-rest.type_inv in
    let t = next-is map l.from l.rest c.lowest-gap.result c.run-size.result small l.invariant.is (omega (arith, c.loop-rest-test.true)) c.lowest-gap.ensures.answer
    c.run-size.ensures.answer in
    let ends = run-low c.args.needed c.args.allowed c.args.held c.args.limit map c.covered-rest.ensures.answer c.requires l.found.taken l.found.starts l.rest l.from
    c.lowest-gap.result c.run-size.result l.invariant t in
    omega (arith, t.some, ends)

pub loop-rest-preserved-then-size-limit : goal.loop-rest-preserved-then-size-limit
loop-rest-preserved-then-size-limit c =
    let l = c.loop-rest in
    let map = c.covered-rest.result in
    let small = map-low c.args.needed c.args.allowed c.args.held c.args.limit map c.covered-rest.ensures.answer c.requires c.covered-rest.type_inv in
    let t = next-is map l.from l.rest c.lowest-gap.result c.run-size.result small l.invariant.is (omega (arith, c.loop-rest-test.true)) c.lowest-gap.ensures.answer
    c.run-size.ensures.answer in
    let v = c.with_span-found in
    found-more c.args.needed c.args.allowed c.args.held c.args.limit map c.covered-rest.ensures.answer c.requires l.found.taken l.found.starts l.rest l.from
    c.lowest-gap.result c.run-size.result l.invariant t v.result.taken v.result.starts
    (found-whole c.args.needed c.args.allowed c.args.held c.args.limit map c.covered-rest.ensures.answer c.requires l.found.taken l.found.starts l.rest l.from
    c.lowest-gap.result c.run-size.result l.invariant t v.result.taken v.result.starts c.if-size-limit.true v.ensures.taken v.ensures.starts)

pub loop-rest-preserved : goal.loop-rest-preserved
loop-rest-preserved c =
    let l = c.loop-rest in
    let map = c.covered-rest.result in
    let small = map-low c.args.needed c.args.allowed c.args.held c.args.limit map c.covered-rest.ensures.answer c.requires c.covered-rest.type_inv in
    let t = next-is map l.from l.rest c.lowest-gap.result c.run-size.result small l.invariant.is (omega (arith, c.loop-rest-test.true)) c.lowest-gap.ensures.answer
    c.run-size.ensures.answer in
    let v = c.cut_run-found in
    found-more c.args.needed c.args.allowed c.args.held c.args.limit map c.covered-rest.ensures.answer c.requires l.found.taken l.found.starts l.rest l.from
    c.lowest-gap.result c.run-size.result l.invariant t v.result.taken v.result.starts
    (found-cut c.args.needed c.args.allowed c.args.held c.args.limit map c.covered-rest.ensures.answer c.requires l.found.taken l.found.starts l.rest l.from
    c.lowest-gap.result c.run-size.result l.invariant t v.result.taken v.result.starts v.ensures.answer)

pub returns : goal.returns
returns c = record {
  answer = λ w π.
      let z : c.loop-rest.rest ≡ 0 = c.loop-rest-test.false in
      found_all c.args.needed c.args.allowed c.args.held c.args.limit c.covered-rest.result c.covered-rest.ensures.answer c.requires c.loop-rest.found.taken
      c.loop-rest.found.starts c.loop-rest.from (rw z at c.loop-rest.invariant) w π;
}
