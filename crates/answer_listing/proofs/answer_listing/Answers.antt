-- The first line of the answer, and what follows its word, are the answer's text.
use Rattle.std.proofs.Common.{◌∙◌, ap, ap₂, ℕ, List, take, arith}
use Rattle.text.specs.Line.{place_after, appended}
use Rattle.unpacking.specs.Unpacking.{unpack}
use Rattle.unpacking.specs.Listed.{listed}
use Rattle.listing.proofs.LineLaws.{line_long, line_front}
use Rattle.planning.specs.Plan.{answer_of}
use Rattle.answer_listing.specs.AnswerText.{first_line, text_below}
use Rattle.answer_listing.proofs.AnswerLaws.{is_well_formed, text}
use Rattle.answer_listing.proofs.answer_listing.Goals as goal

pub shared_ref_as_front-list_answer : goal.shared_ref_as_front-list_answer
shared_ref_as_front-list_answer c =
    let h = line_long c.first_line-line.result (first_line (answer_of c.args.planned)) c.first_line-line.ensures.answer in
    omega (arith, h, c.first_line-line.type_inv)

pub list_answer-requires : goal.list_answer-requires
list_answer-requires c =
    let v = answer_of c.args.planned in
    let plan = c.args.plan.now in
    let front = line_front c.first_line-line.result (first_line v) c.first_line-line.ensures.answer in
    rw (c.packed_bytes-packed.ensures.answer, front) (is_well_formed plan v c.requires)

pub returns : goal.returns
returns c =
    let a = c.args in
    let v = answer_of a.planned in
    let front = line_front c.first_line-line.result (first_line v) c.first_line-line.ensures.answer in
    let t =
    ap₂ (λ (l : List ℕ) (n : ℕ). text_below l (listed (unpack (take n a.plan.now)))) front c.packed_bytes-packed.ensures.answer ∙ text a.plan.now v c.requires in
    record {
      answer = c.list_answer.ensures.answer ∙ ap (place_after a.out.now 0) t;
      memory = c.list_answer.ensures.memory ∙ ap (appended a.out.now 0) t;
    }
