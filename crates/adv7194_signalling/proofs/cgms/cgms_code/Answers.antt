-- `cgms::cgms_code` meets its contract: the flag is whether the four numbers are in their ranges, and the word is the setting's. Assumes nothing.
use mathlib.Core.Path.{◌≡◌, sym, ap, ◌∙◌}
use mathlib.Core.Bool.{Bool, ◌&&◌}
use native.Mathlib.Omega.{arith}
use lib.IntN.{ℤ}
use mir.Syntax.{w32}
use mir.Val.{SFits}
use mir.ValLaws.{to_z-of_z}
use Rattle.rounding.proofs.Range.{back}
use Rattle.refusals.specs.Refusal.{accepted}
use Rattle.field_table.specs.Blocks.{between}
use Rattle.adv7194_signalling.proofs.WordLaws.{word_bytes}
use Rattle.adv7194_signalling.proofs.CgmsLaws.{inside, is-inside, by_magnitudes, cgms-lt, cgms_coded, cgms-outside}
use Rattle.adv7194_signalling.proofs.cgms.cgms_code.Goals as goal

-- the four tests, as they stand in the flag
tested : (a b c d : ℤ) (p q r s : Bool) → SFits w32 a → SFits w32 b → SFits w32 c → SFits w32 d → p ≡ between 0 16383 (back w32 a) → q ≡ between 0 1 (back w32 b)
    → r ≡ between 0 1 (back w32 c) → s ≡ between 0 1 (back w32 d) → (p && q && r && s) ≡ inside a b c d
tested a b c d p q r s ha hb hc hd ep eq er es =
    rw (ep, eq, er, es, to_z-of_z w32 a ha, to_z-of_z w32 b hb, to_z-of_z w32 c hc, to_z-of_z w32 d hd)

pub cgms_word-word-requires : goal.cgms_word-word-requires
cgms_word-word-requires c =
    let a = c.args in
    let r = c.ranges in
    let same = tested a.payload a.odd a.even a.chip_check _ _ _ _ r.payload r.odd r.even r.chip_check c.within.ensures.answer c.within-2.ensures.answer c.within-3.ensures.answer c.within-4.ensures.answer in
    let i = is-inside a.payload a.odd a.even a.chip_check (sym same ∙ c.if-inside.true) in
    rw (to_z-of_z w32 a.payload r.payload, to_z-of_z w32 a.odd r.odd, to_z-of_z w32 a.even r.even, to_z-of_z w32 a.chip_check r.chip_check)
    (omega (arith, i.payload_in.most), omega (arith, i.odd_in_lem.most), omega (arith, i.even_in.most), omega (arith, i.chip_in.most))

pub split-requires : goal.split-requires
split-requires c = rw c.cgms_word-word.ensures.answer (cgms-lt _ _ _ _)

pub returns-then-inside : goal.returns-then-inside
returns-then-inside c =
    let a = c.args in
    let r = c.ranges in
    let same = tested a.payload a.odd a.even a.chip_check _ _ _ _ r.payload r.odd r.even r.chip_check c.within.ensures.answer c.within-2.ensures.answer c.within-3.ensures.answer c.within-4.ensures.answer in
    let both = sym same ∙ c.if-inside.true in
    let word =
    rw (to_z-of_z w32 a.payload r.payload, to_z-of_z w32 a.odd r.odd, to_z-of_z w32 a.even r.even, to_z-of_z w32 a.chip_check r.chip_check) at
    c.cgms_word-word.ensures.answer in
    record {
      answer =
          ap accepted (c.split.ensures.answer ∙ ap word_bytes (word ∙ by_magnitudes (is-inside a.payload a.odd a.even a.chip_check both)))
          ∙ sym (cgms_coded a.payload a.odd a.even a.chip_check both);
    }

pub returns : goal.returns
returns c =
    let a = c.args in
    let r = c.ranges in
    let same = tested a.payload a.odd a.even a.chip_check _ _ _ _ r.payload r.odd r.even r.chip_check c.within.ensures.answer c.within-2.ensures.answer c.within-3.ensures.answer c.within-4.ensures.answer in
    record { answer = sym (cgms-outside a.payload a.odd a.even a.chip_check (sym same ∙ c.if-inside.false)) }
