-- `why_listing`: the text is that of what planning answers and leaves, and the part of the scratch line that holds it is appended. Assumes nothing.
use Rattle.std.proofs.Common.{◌≡◌, ◌∙◌, ap, length, arith, rules}
use Rattle.text.specs.Line.{zeros, place_after, appended}
use Rattle.planning.specs.Plan.{answer_of}
use Rattle.answer_listing.specs.AnswerText.{answer_text, list_in}
use Rattle.answer_listing.proofs.AnswerLaws.{Plans, holds, text_of}
use Rattle.adv7194_bus.specs.Limit.{no_limit}
use Rattle.adv7194_settings.specs.House.{house}
use Rattle.adv7194_least.specs.Demands.{wide_bytes}
use Rattle.writing.proofs.Putting.{part}
use Rattle.adv7194_planning.specs.Rows.{list_of}
use Rattle.house_listing.specs.HouseText.{board_in}
use Rattle.house_listing.proofs.AnswerLaws.{image-whole, plans}
use Rattle.why_lines.proofs.CheckLaws.{house_reason}
use Rattle.why_listing.specs.WhyText.{transaction_text, house_why_text}
use Rattle.why_listing.proofs.why_listing.Goals as goal

pub put_text-end-requires : goal.put_text-end-requires
put_text-end-requires c =
    let image = c.args.image.now in
    let p = c.plan_house-planned in
    let v = answer_of p.result in
    let planned = plans image (zeros wide_bytes) v p.ensures.answer (λ r. (c.type_inv.image r).fits) p.new.plan p.ensures.memory in (
      search rules,
      record {
        holds = holds (list_of (board_in image) house no_limit) (zeros wide_bytes) p.new.plan v planned;
        most = search rules;
        whole = image-whole image (zeros wide_bytes) v p.ensures.answer;
      },
    )

pub returns : goal.returns
unfolding house_why_text
returns c =
    let image = c.args.image.now in
    let out = c.args.out.now in
    let p = c.plan_house-planned in
    let v = answer_of p.result in
    let list = list_of (board_in image) house no_limit in
    let lines = transaction_text (house_reason image) in
    let planned = plans image (zeros wide_bytes) v p.ensures.answer (λ r. (c.type_inv.image r).fits) p.new.plan p.ensures.memory in
    let text = text_of list (zeros wide_bytes) p.new.plan lines v planned ∙ ap (answer_text lines list) p.ensures.answer in
    let w = c.put_text-end.ensures.written in
    let e = part w (search rules) ∙ text in
    record {
      answer = c.append.ensures.answer ∙ ap (place_after out 0) e;
      memory = c.append.ensures.memory ∙ ap (appended out 0) e;
      short = omega (arith, w.answer, w.most, ap length text);
    }
