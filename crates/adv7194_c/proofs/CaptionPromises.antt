-- Document 02, P4, of whatever planning captions answers in numbers and leaves. Assumes nothing.
use mathlib.Core.Path.{◌≡◌, ap}
use mathlib.Core.List.{List}
use Prim.Native.Nat.{ℕ, ◌<◌}
use lib.IntN.{ℤ}
use lib.ListN.{length, take}
use Rattle.std.specs.Prelude.{Result}
use Rattle.refusals.specs.declared.Fault.{Fault}
use Rattle.planning.specs.declared.plan.Packed.{Packed}
use Rattle.planning.specs.Plan.{answer_of}
use Rattle.adv7194_captions.specs.Planning.{caption_planning, caption_plan_left}
use Rattle.adv7194_caption_planning.specs.Demands.{CaptionsPlayed, caption_bytes}
use Rattle.adv7194_caption_planning.proofs.Clauses.{Clauses}
use Rattle.answers.specs.declared.plan_numbers.PlanAnswer.{PlanAnswer}
use Rattle.answers.specs.Answers.{plan_answer}
use Rattle.answers.proofs.Numbered.{planned, short}

-- all that planning captions promises of the numbers answered, and of what it leaves of the lent plan
abbrev pub CaptionPromises : List ℤ → List ℤ → ℕ → List ℕ → List ℕ → PlanAnswer → Type 0
CaptionPromises extended ordinary address plan after r =
    record {
      answer : r ≡ plan_answer (caption_planning extended ordinary address (length plan));
      memory : after ≡ caption_plan_left extended ordinary address plan;
      played : r.refusal ≡ 0 → CaptionsPlayed extended ordinary (take r.length after);
      room : r.refusal ≡ 10 → length plan < caption_bytes;
    }

-- what planning captions promises of its answer, it promises of the numbers
pub captions_promised : (extended ordinary : List ℤ) (address : ℕ) (plan after : List ℕ) (p : Result Packed Fault)
    → Clauses extended ordinary address plan after (answer_of p) → CaptionPromises extended ordinary address plan after (plan_answer (answer_of p))
captions_promised extended ordinary address plan after p c = record {
  answer = ap plan_answer c.answer;
  memory = c.memory;
  played = planned (λ l t b. CaptionsPlayed extended ordinary (take l after)) p c.played;
  room = short p c.room;
}
