-- The text is that of what planning answers and leaves.
use Rattle.std.proofs.Common.{◌≡◌, ◌∙◌, ap, List, ℤ}
use Rattle.text.specs.Line.{place_after, appended, zeros}
use Rattle.planning.specs.Plan.{answer_of}
use Rattle.plan_listing.specs.PlanText.{transaction_line}
use Rattle.answer_listing.specs.AnswerText.{answer_text}
use Rattle.answer_listing.proofs.AnswerLaws.{holds, text_of}
use Rattle.adv7194_captions.specs.Pairs.{caption_list}
use Rattle.adv7194_caption_planning.specs.Demands.{caption_bytes}
use Rattle.caption_listing.specs.CaptionText.{pairs_text}
use Rattle.caption_listing.proofs.AnswerLaws.{plans}
use Rattle.caption_listing.proofs.list_pairs.Goals as goal

pub answer_listing-requires : goal.answer_listing-requires
answer_listing-requires c =
    let a = c.args in
    let p = c.plan_captions-planned in
    let v = answer_of p.result in
    holds (caption_list a.extended.now a.ordinary.now) (zeros caption_bytes) p.new.plan v
    (plans a.extended.now a.ordinary.now (zeros caption_bytes) p.new.plan p.ensures.memory v p.ensures.answer)

pub returns : goal.returns
unfolding pairs_text
returns c =
    let a = c.args in
    let p = c.plan_captions-planned in
    let v = answer_of p.result in
    let ts = caption_list a.extended.now a.ordinary.now in
    let planned = plans a.extended.now a.ordinary.now (zeros caption_bytes) p.new.plan p.ensures.memory v p.ensures.answer in
    let text = text_of ts (zeros caption_bytes) p.new.plan transaction_line v planned ∙ ap (answer_text transaction_line ts) p.ensures.answer in
    record {
      answer = c.answer_listing.ensures.answer ∙ ap (place_after a.out.now 0) text;
      memory = c.answer_listing.ensures.memory ∙ ap (appended a.out.now 0) text;
    }
