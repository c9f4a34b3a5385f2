-- The count of the bytes decides which pairs they are.
use Rattle.std.proofs.Common.{◌≡◌, ◌∙◌, sym, ap, ap₂, ◌*◌, ℕ, List, length, [], arith}
use borrow.Author.Tests.{ltb-true, ltb-false}
use Rattle.text.specs.Line.{place_after, appended}
use Rattle.listing.specs.Lines.{refused_line}
use Rattle.adv7194_captions.specs.Pairs.{caption_field}
use Rattle.adv7194_captions.specs.Plans.{pair_size}
use Rattle.caption_listing.specs.CaptionText.{pairs_text, caption_text}
use Rattle.caption_listing.proofs.InputLaws.{two_bytes, four_bytes, other_count}
use Rattle.caption_listing.proofs.caption_listing.Goals as goal
use Rattle.caption_listing.proofs.caption_listing.Goals.{in_default-via-then-input-lt2, in_default-via-else-input-lt2+else-input-lt3+then-input-lt4}
use Rattle.caption_listing.proofs.caption_listing.Goals.{in_default-via-else-input-lt2+else-input-lt3+else-input-lt4+else-input-lt5}

pub returns-in-len2 : goal.returns-in-len2
returns-in-len2 c =
    let a = c.args in
    let e : pairs_text [] c.pair_of.result ≡ caption_text a.input.now =
    ap (pairs_text []) c.pair_of.ensures.answer ∙ sym (two_bytes a.input.now (omega arith)) in
    record { answer = c.list_pairs.ensures.answer ∙ ap (place_after a.out.now 0) e; memory = c.list_pairs.ensures.memory ∙ ap (appended a.out.now 0) e }

pub returns-in-len4 : goal.returns-in-len4
returns-in-len4 c =
    let a = c.args in
    let p = c.list_pairs-in-len4 in
    let e : pairs_text c.pair_of-in-len4.result c.pair_of-in-len4-2.result ≡ caption_text a.input.now =
    ap₂ pairs_text c.pair_of-in-len4.ensures.answer c.pair_of-in-len4-2.ensures.answer ∙ sym (four_bytes a.input.now (omega arith)) in
    record { answer = p.ensures.answer ∙ ap (place_after a.out.now 0) e; memory = p.ensures.memory ∙ ap (appended a.out.now 0) e }

pub returns-in_default : goal.returns-in_default
returns-in_default c =
    let a = c.args in
    let n = length a.input.now in
    let two : n ≡ pair_size → ⊥ = elim c.in_default.branch [
      | in_default-via-then-input-lt2 w ↦ (λ h. omega (arith, ltb-true, ltb-false))
      | in_default-via-else-input-lt2+else-input-lt3+then-input-lt4 w ↦ (λ h. omega (arith, ltb-true, ltb-false))
      | in_default-via-else-input-lt2+else-input-lt3+else-input-lt4+else-input-lt5 w ↦ (λ h. omega (arith, ltb-true, ltb-false))
    ] in
    let four : n ≡ 2 * pair_size → ⊥ = elim c.in_default.branch [
      | in_default-via-then-input-lt2 w ↦ (λ h. omega (arith, ltb-true, ltb-false))
      | in_default-via-else-input-lt2+else-input-lt3+then-input-lt4 w ↦ (λ h. omega (arith, ltb-true, ltb-false))
      | in_default-via-else-input-lt2+else-input-lt3+else-input-lt4+else-input-lt5 w ↦ (λ h. omega (arith, ltb-true, ltb-false))
    ] in
    let e = sym (other_count a.input.now two four) in
    let p = c.answer_listing in
    record {
      answer = rw c.at.ensures.answer at p.ensures.answer ∙ ap (place_after a.out.now 0) e;
      memory = rw c.at.ensures.answer at p.ensures.memory ∙ ap (appended a.out.now 0) e;
    }
