-- Document 02, P4, as a program: the characters are an input's bytes, two for the ordinary pair, four for the extended one and then the ordinary one;
-- another count is refused as neither pair is. The text is that of planning them for the boards' address.
use Rattle.std.specs.Prelude.{cond, List, [], map, ℕ, ◌*◌, eqb, ℤ, pos, length, take, drop}
use Rattle.listing.specs.Lines.{refused_line}
use Rattle.plan_listing.specs.PlanText.{transaction_line}
use Rattle.answer_listing.specs.AnswerText.{answer_text}
use Rattle.adv7194_bus.specs.Kind.{board_address}
use Rattle.adv7194_captions.specs.Pairs.{caption_field, caption_list}
use Rattle.adv7194_captions.specs.Plans.{pair_size}
use Rattle.adv7194_captions.specs.Planning.{caption_planning}
use Rattle.adv7194_caption_planning.specs.Demands.{caption_bytes}

-- the text of one or both pairs planned, with room for the longest plan
unfoldable pub pairs_text : List ℤ → List ℤ → List ℕ
pairs_text extended ordinary = answer_text transaction_line (caption_list extended ordinary) (caption_planning extended ordinary board_address caption_bytes)

-- the text for an input's bytes
unfoldable pub caption_text : List ℕ → List ℕ
caption_text input =
    cond (eqb (length input) pair_size) (pairs_text [] (map pos input))
    (cond (eqb (length input) (2 * pair_size)) (pairs_text (map pos (take pair_size input)) (map pos (drop pair_size input)))
    (refused_line 3 caption_field))
