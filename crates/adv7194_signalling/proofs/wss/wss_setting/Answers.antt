-- `wss::wss_setting` meets its contract: the word is the one that codes its number, and no other number is coded so. Assumes nothing.
use mathlib.Core.Path.{◌≡◌, refl, sym, ap, ◌∙◌}
use mathlib.Core.Bool.{true, true≢false}
use Prim.Native.Nat.{◌+◌, ◌%◌}
use native.Mathlib.Omega.{arith}
use lib.Dec.{eqb}
use lib.IntN.{ℤ, pos, nat_abs}
use mir.Syntax.{w8, w32}
use mir.Val.{Fits}
use mir.ValLaws.{to_z_pos}
use borrow.Author.Tests.{eqb-true, eq-eqb}
use borrow.Author.Rules.{rules}
use Rattle.bits.specs.Parity.{odd_in}
use Rattle.refusals.specs.Refusal.{accepted, refused}
use Rattle.adv7194_signalling.specs.Word.{three_bytes}
use Rattle.adv7194_signalling.specs.Wss.{wss_of}
use Rattle.adv7194_signalling.proofs.FlagLaws.{both}
use Rattle.adv7194_signalling.proofs.NumberLaws.{rest-within}
use Rattle.adv7194_signalling.proofs.WordLaws.{word_bytes, joined-only, bytes-joined}
use Rattle.adv7194_signalling.proofs.WssLaws.{wss_coded, is_coded}
use Rattle.adv7194_signalling.proofs.HeldLaws.{wss_both}
use Rattle.adv7194_signalling.proofs.wss.wss_setting.Goals as goal

-- the number in the word is coded as the registers
held : (c : goal.Then-number-word) → wss_of (pos (c.joined-word.result % 0x4000)) ≡ accepted (three_bytes c.args.registers)
held c =
    let r = c.args.registers in
    let w = c.joined-word.result in
    let r1a : Fits w8 r.r1a = search rules in
    let r1b : Fits w8 r.r1b = search rules in
    let t = both (eqb (w % 0x4000 + 0x800000) w) c.odd_ones.result c.if-number-word.true in
    wss_coded (pos (w % 0x4000)) (rest-within w 16383) (sym c.odd_ones.ensures.answer ∙ t.1)
    ∙ ap accepted
    (ap word_bytes (eqb-true _ _ t.0 ∙ c.joined-word.ensures.answer) ∙ bytes-joined r.r19 r.r1a r.r1b (omega (arith, r1a.fits)) (omega (arith, r1b.fits)))

-- where a test fails, no number is
none : (c : goal.Else-number-word) → (z : ℤ) → wss_of z ≡ accepted (three_bytes c.args.registers) → ⊥
none c z h =
    let r = c.args.registers in
    let w = c.joined-word.result in
    let own = is_coded z (three_bytes r) h in
    let e : nat_abs z + 0x800000 ≡ w = joined-only _ r.r19 r.r1a r.r1b own.bytes_are ∙ sym c.joined-word.ensures.answer in
    let n : w % 0x4000 ≡ nat_abs z = omega (arith, own.in_range.most) in
    let t : eqb (w % 0x4000 + 0x800000) w ≡ true = eq-eqb (w % 0x4000 + 0x800000) w (omega arith) in
    let o : c.odd_ones.result ≡ true = c.odd_ones.ensures.answer ∙ ap (odd_in 4) n ∙ own.odd in
    true≢false (rw (t, o) at c.if-number-word.false)

pub returns-then-number-word-clause-answer : goal.returns-then-number-word-clause-answer
returns-then-number-word-clause-answer c =
    let z = pos (c.joined-word.result % 0x4000) in
    rw (to_z_pos w32 (c.joined-word.result % 0x4000) (omega arith)) (wss_both (three_bytes c.args.registers) (accepted z) (held c)).0

pub returns-then-number-word-clause-only : goal.returns-then-number-word-clause-only
returns-then-number-word-clause-only c = rw (to_z_pos w32 (c.joined-word.result % 0x4000) (omega arith)) (held c)

pub returns-clause-answer : goal.returns-clause-answer
returns-clause-answer c = (wss_both (three_bytes c.args.registers) (refused 4) (refl, none c)).0

pub returns-clause-only : goal.returns-clause-only
returns-clause-only c = (refl, none c)
