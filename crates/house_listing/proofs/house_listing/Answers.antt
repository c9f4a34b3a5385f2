-- The text is that of what planning answers and leaves.
use Rattle.std.proofs.Common.{◌≡◌, ◌∙◌, ap}
use Rattle.text.specs.Line.{zeros, place_after, appended}
use Rattle.planning.specs.Plan.{answer_of}
use Rattle.plan_listing.specs.PlanText.{transaction_line}
use Rattle.answer_listing.specs.AnswerText.{answer_text}
use Rattle.answer_listing.proofs.AnswerLaws.{holds, text_of}
use Rattle.adv7194_bus.specs.Limit.{no_limit}
use Rattle.adv7194_settings.specs.House.{house}
use Rattle.adv7194_least.specs.Demands.{wide_bytes}
use Rattle.adv7194_planning.specs.Rows.{list_of}
use Rattle.house_listing.specs.HouseText.{board_in, house_text_in}
use Rattle.house_listing.proofs.AnswerLaws.{plans}
use Rattle.house_listing.proofs.house_listing.Goals as goal

pub answer_listing-requires : goal.answer_listing-requires
answer_listing-requires c =
    let image = c.args.image.now in
    let p = c.plan_house-planned in
    let v = answer_of p.result in
    holds (list_of (board_in image) house no_limit) (zeros wide_bytes) p.new.plan v
    (plans image (zeros wide_bytes) v p.ensures.answer (λ r. (c.type_inv.image r).fits) p.new.plan p.ensures.memory)

pub returns : goal.returns
unfolding house_text_in
returns c =
    let image = c.args.image.now in
    let out = c.args.out.now in
    let p = c.plan_house-planned in
    let v = answer_of p.result in
    let list = list_of (board_in image) house no_limit in
    let planned = plans image (zeros wide_bytes) v p.ensures.answer (λ r. (c.type_inv.image r).fits) p.new.plan p.ensures.memory in
    let text = text_of list (zeros wide_bytes) p.new.plan transaction_line v planned ∙ ap (answer_text transaction_line list) p.ensures.answer in
    record {
      answer = c.answer_listing.ensures.answer ∙ ap (place_after out 0) text;
      memory = c.answer_listing.ensures.memory ∙ ap (appended out 0) text;
    }
