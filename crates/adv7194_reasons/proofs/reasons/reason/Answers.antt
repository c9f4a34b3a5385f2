-- `reasons::reason`: the map of the plan's registers says what is sent, the board's what is known.
use Rattle.std.proofs.Common.{◌≡◌, ℕ, Bool, List, sym, ap, ◌∙◌}
use mathlib.Core.Path.{fun_ext}
use Rattle.bits.specs.Maps.{has}
use Rattle.bus.specs.Transactions.{Transaction}
use Rattle.cutting.specs.Task.{Plannable, plan_by}
use Rattle.cutting.specs.Spans.{touched}
use Rattle.adv7194_bus.specs.declared.board.Board.{Board}
use Rattle.adv7194_least.specs.Change.{Change}
use Rattle.adv7194_least.specs.Plan.{plan_of}
use Rattle.adv7194_planning.specs.Aims.{aim_by, MapsOf}
use Rattle.adv7194_planning.specs.declared.registers.RegisterMaps.{RegisterMaps}
use Rattle.adv7194_planning.proofs.MapPlan.{plannable, bounded, plan-is}
use Rattle.adv7194_reasons.specs.Known.{known_reason}
use Rattle.adv7194_reasons.proofs.SomeAnswer.{plan-inside}
use Rattle.adv7194_reasons.proofs.KnownLaws.{not_touched, not_known_lem, is_known}
use Rattle.adv7194_reasons.proofs.reasons.reason.Goals as goal

-- the map has the registers that the plan touches
taken_is : (b : Board) (w : List ℕ) (fixed limit r : ℕ) (χ : Change (aim_by b w fixed limit)) (m : RegisterMaps) → MapsOf (aim_by b w fixed limit) m
    → (taken : ℕ) {B : Type 0}
    → (Plannable m.needed m.allowed m.held limit w → ((x : ℕ) → has taken x ≡ touched (plan_by m.needed m.allowed m.held limit w) x) × B)
    → touched (plan_of (aim_by b w fixed limit)) r ≡ has taken r
taken_is b w fixed limit r χ m μ taken h =
    sym ((h (plannable b w fixed limit χ m μ)).0 r ∙ ap (λ (ts : List Transaction). touched ts r) (plan-is b w fixed limit χ m μ))

pub plan_spans-sent-requires : goal.plan_spans-sent-requires
plan_spans-sent-requires c =
    let a = c.args in
    bounded a.board a.wanted.now a.fixed a.limit c.requires.change c.register_maps-maps.result (c.register_maps-maps.ensures.answer a.limit)

pub returns-then-not-has : goal.returns-then-not-has
returns-then-not-has c =
    let a = c.args in
    let w = a.wanted.now in
    let aim = aim_by a.board w a.fixed a.limit in
    let is =
    taken_is a.board w a.fixed a.limit a.register c.requires.change c.register_maps-maps.result (c.register_maps-maps.ensures.answer a.limit)
    c.plan_spans-sent.result.taken (c.plan_spans-sent.ensures.answer w) in
    record { answer = sym (not_touched aim (plan_of aim) a.register (is ∙ sym c.has.ensures.answer ∙ c.if-not-has.true)) }

pub returns-then-not-has-2 : goal.returns-then-not-has-2
returns-then-not-has-2 c =
    let a = c.args in
    let w = a.wanted.now in
    let aim = aim_by a.board w a.fixed a.limit in
    let is =
    taken_is a.board w a.fixed a.limit a.register c.requires.change c.register_maps-maps.result (c.register_maps-maps.ensures.answer a.limit)
    c.plan_spans-sent.result.taken (c.plan_spans-sent.ensures.answer w) in
    let sent = is ∙ sym c.has.ensures.answer ∙ c.if-not-has.false in
    record { answer = sym (not_known_lem aim (plan_of aim) a.register sent (sym c.has-2.ensures.answer ∙ c.if-not-has-2.true)) }

pub known_reason-requires : goal.known_reason-requires
known_reason-requires c =
    let a = c.args in
    let w = a.wanted.now in
    let is =
    taken_is a.board w a.fixed a.limit a.register c.requires.change c.register_maps-maps.result (c.register_maps-maps.ensures.answer a.limit)
    c.plan_spans-sent.result.taken (c.plan_spans-sent.ensures.answer w) in
    plan-inside (aim_by a.board w a.fixed a.limit) c.requires.change a.register (is ∙ sym c.has.ensures.answer ∙ c.if-not-has.false)

pub returns : goal.returns
returns c =
    let a = c.args in
    let w = a.wanted.now in
    let aim = aim_by a.board w a.fixed a.limit in
    let maps = c.register_maps-maps.ensures.answer a.limit in
    let is =
    taken_is a.board w a.fixed a.limit a.register c.requires.change c.register_maps-maps.result maps c.plan_spans-sent.result.taken (c.plan_spans-sent.ensures.answer w) in
    let sent = is ∙ sym c.has.ensures.answer ∙ c.if-not-has.false in
    let known = sym c.has-2.ensures.answer ∙ c.if-not-has-2.false in
    record {
      answer =
          c.known_reason.ensures.answer
          ∙ ap (λ (P : ℕ → Bool). known_reason a.board.registers w P a.register) (fun_ext maps.musts)
          ∙ sym (is_known aim (plan_of aim) a.register sent known c.requires.answer);
    }
