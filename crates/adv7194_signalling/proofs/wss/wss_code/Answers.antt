-- `wss::wss_code` meets its contract: the two tests are the definition's, and the word is the number's. Assumes nothing.
use mathlib.Core.Path.{◌≡◌, sym, ap, ◌∙◌}
use mathlib.Core.Bool.{true}
use mir.Syntax.{w32}
use mir.ValLaws.{to_z-of_z}
use Rattle.refusals.specs.Refusal.{accepted}
use Rattle.field_table.specs.Blocks.{between}
use Rattle.adv7194_signalling.specs.Wss.{wss_of}
use Rattle.adv7194_signalling.proofs.WssLaws.{wss_coded}
use Rattle.adv7194_signalling.proofs.wss.wss_code.Goals as goal

pub returns-then-odd_ones : goal.returns-then-odd_ones
returns-then-odd_ones c =
    let same = to_z-of_z w32 c.args.number c.ranges.number in
    let inside : between 0 16383 c.args.number ≡ true = rw same at (sym c.if-within.ensures.answer) in
    let odd = rw same at (sym c.if-odd_ones.ensures.answer) in
    record { answer = ap accepted (rw same at c.split.ensures.answer) ∙ sym (wss_coded c.args.number inside odd) }

pub returns-then-within : goal.returns-then-within
unfolding wss_of
returns-then-within c =
    let same = to_z-of_z w32 c.args.number c.ranges.number in
    let inside = rw same at (sym c.if-within.ensures.answer) in
    let odd = rw same at (sym c.if-odd_ones.ensures.answer) in
    record { answer = rw (inside, odd) }

pub returns : goal.returns
unfolding wss_of
returns c =
    let same = to_z-of_z w32 c.args.number c.ranges.number in
    let inside = rw same at (sym c.if-within.ensures.answer) in
    record { answer = rw inside }
