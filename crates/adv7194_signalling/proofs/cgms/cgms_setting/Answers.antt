-- `cgms::cgms_setting` meets its contract: a word that is coded again unchanged holds the setting, and one that holds a setting is coded
-- again unchanged. Assumes nothing.
use mathlib.Core.Path.{◌≡◌, refl, sym, ap, ◌∙◌}
use native.Mathlib.Omega.{arith}
use lib.IntN.{pos}
use mir.Syntax.{w8, w32}
use mir.Val.{Fits}
use mir.ValLaws.{to_z_pos}
use borrow.Author.Rules.{rules}
use Rattle.refusals.specs.Refusal.{accepted, refused}
use Rattle.adv7194_signalling.specs.declared.cgms.CgmsSetting.{CgmsSetting}
use Rattle.adv7194_signalling.specs.Word.{three_bytes}
use Rattle.adv7194_signalling.specs.Cgms.{cgms_of, cgms_code}
use Rattle.adv7194_signalling.proofs.CgmsLaws.{cgms_number}
use Rattle.adv7194_signalling.proofs.WordLaws.{word_bytes, joined-only, bytes-joined}
use Rattle.adv7194_signalling.proofs.CgmsReadLaws.{payload_of, odd_of, even_of, chip_of, is_coded, again_held, held_again}
use Rattle.adv7194_signalling.proofs.HeldLaws.{made, cgms_both}
use Rattle.adv7194_signalling.proofs.cgms.cgms_setting.Goals as goal

-- the setting in the word is coded as the registers
held : (c : goal.Then-cgms_word-word) → (let w = c.joined-word.result in
    cgms_of (pos (payload_of w)) (pos (odd_of w)) (pos (even_of w)) (pos (chip_of w)) ≡ accepted (three_bytes c.args.registers))
held c =
    let r = c.args.registers in
    let r1a : Fits w8 r.r1a = search rules in
    let r1b : Fits w8 r.r1b = search rules in
    again_held c.joined-word.result (sym c.cgms_word.ensures.answer ∙ c.if-cgms_word-word.true)
    ∙ ap accepted (ap word_bytes c.joined-word.ensures.answer ∙ bytes-joined r.r19 r.r1a r.r1b (omega (arith, r1a.fits)) (omega (arith, r1b.fits)))

-- where the word isn't coded again, no setting is
none : (c : goal.Else-cgms_word-word) → (s : CgmsSetting) → cgms_code s ≡ accepted (three_bytes c.args.registers) → ⊥
none c s h =
    let r = c.args.registers in
    let own = is_coded s.payload s.odd s.even s.chip_check (three_bytes r) h in
    let e : cgms_number s.payload s.odd s.even s.chip_check ≡ c.joined-word.result =
    joined-only _ r.r19 r.r1a r.r1b own.bytes_are ∙ sym c.joined-word.ensures.answer in
    c.if-cgms_word-word.false (c.cgms_word.ensures.answer ∙ (rw e at (held_again own.in_range)))

pub returns-then-cgms_word-word-clause-answer : goal.returns-then-cgms_word-word-clause-answer
returns-then-cgms_word-word-clause-answer c =
    let w = c.joined-word.result in
    let both =
    cgms_both (three_bytes c.args.registers) (accepted (made (pos (payload_of w)) (pos (odd_of w)) (pos (even_of w)) (pos (chip_of w)))) (held c) in
    rw
    (to_z_pos w32 (payload_of w) (omega arith), to_z_pos w32 (odd_of w) (omega arith), to_z_pos w32 (even_of w) (omega arith), to_z_pos w32 (chip_of w) (omega arith))
    both.0

pub returns-then-cgms_word-word-clause-only : goal.returns-then-cgms_word-word-clause-only
returns-then-cgms_word-word-clause-only c =
    let w = c.joined-word.result in
    rw
    (to_z_pos w32 (payload_of w) (omega arith), to_z_pos w32 (odd_of w) (omega arith), to_z_pos w32 (even_of w) (omega arith), to_z_pos w32 (chip_of w) (omega arith))
    (held c)

pub returns-clause-answer : goal.returns-clause-answer
returns-clause-answer c = (cgms_both (three_bytes c.args.registers) (refused 8) (refl, none c)).0

pub returns-clause-only : goal.returns-clause-only
returns-clause-only c = (refl, none c)
