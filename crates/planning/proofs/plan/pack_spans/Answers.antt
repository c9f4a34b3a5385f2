-- `pack_spans`: each round packs the list's next transaction.
use Rattle.std.proofs.Common.{◌+◌, refl, sym, ◌∙◌, arith}
use native.Mathlib.Nat.{div-one}
use Rattle.planning.specs.Plan.{list_of, list_from}
use Rattle.planning.proofs.RoundLaws.{starts_in, round, listed, span, span_size}
use Rattle.planning.proofs.ProgressLaws.{progress_none, progress_room, progress_more, progress_last, progress_done}
use Rattle.planning.proofs.plan.pack_spans.Goals as goal

pub loop-rest-init : goal.loop-rest-init
loop-rest-init c = record {
  within = omega arith;
  is = sym (div-one c.args.taken);
  progress = progress_none (list_of c.args.taken c.args.goes c.args.wanted.now) c.args.first c.args.plan.now c.requires.sound c.requires.room;
}

pub loop-rest-preserved : goal.loop-rest-preserved
loop-rest-preserved c =
    let l = c.loop-rest in
    let t = round c.args.taken c.args.goes c.args.wanted.now c.requires.inside c.requires.over l.from l.rest c.lowest.result c.run-more.result c.ranges.taken.fits
    c.ranges.goes.fits l.invariant.within l.invariant.is (omega (arith, c.loop-rest-test.true)) c.lowest.ensures.answer c.run-more.ensures.answer in
    let w = c.args.wanted.now in
    let first = l.from + c.lowest.result in
    let past = first + c.run-more.result + 1 in
    let list = list_of c.args.taken c.args.goes w in
    let put = c.pack_transaction-pending in
    record {
      within = t.inside;
      is = refl;
      progress = progress_more list c.args.first c.args.plan.now c.requires.sound c.requires.room l.invariant.progress (span w first past)
          (list_from c.args.taken c.args.goes w past) t.next put.new.plan put.result put.auto.plan put.ensures.answer;
    }

pub overflow_add-start : goal.overflow_add-start
overflow_add-start c =
    let l = c.loop-rest in
    let low = starts_in c.args.taken c.args.goes c.args.wanted.now c.requires.inside c.requires.over l.from l.rest c.lowest.result c.ranges.taken.fits l.invariant.is
    (omega (arith, c.loop-rest-test.true)) c.lowest.ensures.answer in
    omega (arith, low, c.requires.small)

pub overflow_shr-goes : goal.overflow_shr-goes
overflow_shr-goes c =
    let l = c.loop-rest in
    let low = starts_in c.args.taken c.args.goes c.args.wanted.now c.requires.inside c.requires.over l.from l.rest c.lowest.result c.ranges.taken.fits l.invariant.is
    (omega (arith, c.loop-rest-test.true)) c.lowest.ensures.answer in
    omega (arith, low, c.requires.small)

pub overflow_add-end : goal.overflow_add-end
overflow_add-end c =
    let l = c.loop-rest in
    let t = round c.args.taken c.args.goes c.args.wanted.now c.requires.inside c.requires.over l.from l.rest c.lowest.result c.run-more.result c.ranges.taken.fits
    c.ranges.goes.fits l.invariant.within l.invariant.is (omega (arith, c.loop-rest-test.true)) c.lowest.ensures.answer c.run-more.ensures.answer in
    omega (arith, t.inside, c.requires.small)

pub overflow_add-end-in-loop-rest : goal.overflow_add-end-in-loop-rest
overflow_add-end-in-loop-rest c =
    let l = c.loop-rest in
    let t = round c.args.taken c.args.goes c.args.wanted.now c.requires.inside c.requires.over l.from l.rest c.lowest.result c.run-more.result c.ranges.taken.fits
    c.ranges.goes.fits l.invariant.within l.invariant.is (omega (arith, c.loop-rest-test.true)) c.lowest.ensures.answer c.run-more.ensures.answer in
    omega (arith, t.inside, c.requires.small)

pub overflow_cast-start-in-loop-rest : goal.overflow_cast-start-in-loop-rest
overflow_cast-start-in-loop-rest c =
    let l = c.loop-rest in
    let t = round c.args.taken c.args.goes c.args.wanted.now c.requires.inside c.requires.over l.from l.rest c.lowest.result c.run-more.result c.ranges.taken.fits
    c.ranges.goes.fits l.invariant.within l.invariant.is (omega (arith, c.loop-rest-test.true)) c.lowest.ensures.answer c.run-more.ensures.answer in
    record { fits = omega (arith, t.inside, c.requires.small) }

pub slice_bounds-pack_transaction-end : goal.slice_bounds-pack_transaction-end
slice_bounds-pack_transaction-end c =
    let l = c.loop-rest in
    let t = round c.args.taken c.args.goes c.args.wanted.now c.requires.inside c.requires.over l.from l.rest c.lowest.result c.run-more.result c.ranges.taken.fits
    c.ranges.goes.fits l.invariant.within l.invariant.is (omega (arith, c.loop-rest-test.true)) c.lowest.ensures.answer c.run-more.ensures.answer in
    t.inside

pub pack_transaction-pending-requires : goal.pack_transaction-pending-requires
pack_transaction-pending-requires c =
    let l = c.loop-rest in
    let t = round c.args.taken c.args.goes c.args.wanted.now c.requires.inside c.requires.over l.from l.rest c.lowest.result c.run-more.result c.ranges.taken.fits
    c.ranges.goes.fits l.invariant.within l.invariant.is (omega (arith, c.loop-rest-test.true)) c.lowest.ensures.answer c.run-more.ensures.answer in
    let w = c.args.wanted.now in
    let first = l.from + c.lowest.result in
    let past = first + c.run-more.result + 1 in
    let list = list_of c.args.taken c.args.goes w in (
      l.invariant.progress.sofar.sound,
      omega (arith, t.inside, c.requires.small),
      omega (arith, span_size w first past (omega arith) t.inside, t.inside, c.requires.small),
      progress_room list c.args.first c.args.plan.now c.requires.sound c.requires.room l.invariant.progress (span w first past)
          (list_from c.args.taken c.args.goes w past) t.next,
    )

pub finish-requires : goal.finish-requires
finish-requires c =
    let l = c.loop-rest in
    let none = listed c.args.taken c.args.goes c.args.wanted.now c.requires.inside c.requires.over l.from l.invariant.within
    (sym l.invariant.is ∙ c.loop-rest-test.false) in (
      l.invariant.progress.sofar.sound,
      progress_last (list_of c.args.taken c.args.goes c.args.wanted.now) c.args.first c.args.plan.now c.requires.sound c.requires.room l.invariant.progress none,
    )

pub returns : goal.returns
returns c =
    let l = c.loop-rest in
    let none = listed c.args.taken c.args.goes c.args.wanted.now c.requires.inside c.requires.over l.from l.invariant.within
    (sym l.invariant.is ∙ c.loop-rest-test.false) in
    record {
      memory = progress_done (list_of c.args.taken c.args.goes c.args.wanted.now) c.args.first c.args.plan.now c.requires.sound c.requires.room l.invariant.progress
          none c.finish.new.plan c.finish.result c.finish.ensures.answer c.finish.ensures.memory;
    }
