-- Each test that led to an answer of `next` is one of the step's.
use Rattle.std.proofs.Common.{true, false, sym, ap, ◌∙◌, arith}
use Rattle.unpacking.specs.declared.steps.Transaction.{Transaction}
use Rattle.std.specs.Prelude.{Some, Ok}
use Rattle.unpacking.proofs.PlaceLaws.{inside-placed}
use Rattle.unpacking.proofs.NextLaws.{outside, at-end, no_header, no_data, not_free, few_data, small_header, header_found}
use Rattle.unpacking.proofs.steps.next.Goals as goal

pub returns-then-not-within : goal.returns-then-not-within
returns-then-not-within c = record { answer = sym (outside c.args.plan.now c.args.cursor (sym c.within.ensures.answer ∙ c.if-not-within.true)) }

pub filling-requires : goal.filling-requires
filling-requires c = inside-placed c.args.plan.now c.args.cursor.place (sym c.if-not-within.ensures.answer)

pub returns-then-filling : goal.returns-then-filling
returns-then-filling c =
    record { answer = sym (at-end c.args.plan.now c.args.cursor (sym c.if-not-within.ensures.answer) true c.if-cursor-eq0.true (sym c.if-filling.ensures.answer)) }

pub returns-else-filling : goal.returns-else-filling
returns-else-filling c =
    record { answer = sym (at-end c.args.plan.now c.args.cursor (sym c.if-not-within.ensures.answer) false c.if-cursor-eq0.true (sym c.if-filling.ensures.answer)) }

pub returns-then-plan-place-lt-HEADER_BYTES : goal.returns-then-plan-place-lt-HEADER_BYTES
returns-then-plan-place-lt-HEADER_BYTES c =
    record { answer = no_header c.args.plan.now c.args.cursor (sym c.if-not-within.ensures.answer) c.if-cursor-eq0.false c.if-plan-place-lt-HEADER_BYTES.true }

pub header_at-header-requires : goal.header_at-header-requires
header_at-header-requires c =
    let p = inside-placed c.args.plan.now c.args.cursor.place (sym c.if-not-within.ensures.answer) in
    (p, omega (arith, c.if-plan-place-lt-HEADER_BYTES.false, p.inside))

pub returns-then-count-eq0 : goal.returns-then-count-eq0
returns-then-count-eq0 c =
    record {
      answer = no_data c.args.plan.now c.args.cursor (sym c.if-not-within.ensures.answer) c.if-cursor-eq0.false c.header_at-header.result
          c.header_at-header.ensures.answer c.if-count-eq0.true;
    }

pub returns-then-subaddress-cursor : goal.returns-then-subaddress-cursor
returns-then-subaddress-cursor c =
    record {
      answer = not_free c.args.plan.now c.args.cursor (sym c.if-not-within.ensures.answer) c.if-cursor-eq0.false c.header_at-header.result
          c.header_at-header.ensures.answer c.if-subaddress-cursor.true;
    }

pub returns-then-plan-data : goal.returns-then-plan-data
returns-then-plan-data c =
    record {
      answer = few_data c.args.plan.now c.args.cursor (sym c.if-not-within.ensures.answer) c.if-cursor-eq0.false c.header_at-header.result
          c.header_at-header.ensures.answer c.if-plan-data.true;
    }

pub found-requires : goal.found-requires
found-requires c =
    let e = c.header_at-header.ensures.answer in
    let k = small_header c.args.plan.now c.args.cursor (sym c.if-not-within.ensures.answer) c.if-cursor-eq0.false c.header_at-header.result e in
    (omega (arith, k.0, k.1), omega (arith, c.if-plan-data.false, e.placed.inside))

pub returns : goal.returns
returns c =
    record {
      answer = ap (λ (t : Transaction). Ok (Some t)) c.found.ensures.answer
          ∙ header_found c.args.plan.now c.args.cursor (sym c.if-not-within.ensures.answer) c.if-cursor-eq0.false c.header_at-header.result
          c.header_at-header.ensures.answer c.if-plan-place-lt-HEADER_BYTES.false c.if-count-eq0.false c.if-subaddress-cursor.false c.if-plan-data.false;
    }
