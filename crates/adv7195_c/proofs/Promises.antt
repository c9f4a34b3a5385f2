-- Demands 1, 2 and 3 of whatever planning for the ADV7195 answers in numbers and leaves. Assumes nothing.
use mathlib.Core.Path.{◌≡◌, ap}
use mathlib.Core.List.{List}
use Prim.Native.Nat.{ℕ, ◌<◌}
use lib.IntN.{ℤ}
use lib.ListN.{length, take}
use Rattle.packing.specs.Packing.{anywhere}
use Rattle.unpacking.specs.Unpacking.{CountedBy}
use Rattle.std.specs.Prelude.{Result}
use Rattle.refusals.specs.declared.Fault.{Fault}
use Rattle.planning.specs.declared.plan.Packed.{Packed}
use Rattle.planning.specs.Plan.{answer_of}
use Rattle.answers.specs.declared.plan_numbers.PlanAnswer.{PlanAnswer}
use Rattle.answers.specs.Answers.{plan_answer}
use Rattle.answers.proofs.Numbered.{planned, short}
use Rattle.adv7195_settings.specs.Wanted.{wanted_by, Demanded}
use Rattle.adv7195_least.specs.Played.{Played}
use Rattle.adv7195_least.specs.Demands.{Least, First, most_bytes}
use Rattle.adv7195_planning.specs.Planning.{list_of, planning_of, plan_left}
use Rattle.adv7195_planning.proofs.Clauses.{Clauses}

-- all that planning promises of the numbers answered, and of what it leaves of the lent plan
abbrev pub Promises : List ℕ → List ℤ → ℕ → List ℕ → List ℕ → PlanAnswer → Type 0
Promises image numbers address plan after r =
    let wanted = wanted_by image numbers in
    record {
      answer : r ≡ plan_answer (planning_of image numbers address (length plan));
      memory : after ≡ plan_left image numbers address plan;
      counted : r.refusal ≡ 0 → CountedBy anywhere (take r.length after) r.length r.transactions r.bus_bytes;
      demanded : r.refusal ≡ 0 → Demanded image numbers wanted;
      played : r.refusal ≡ 0 → Played image wanted (take r.length after);
      least : r.refusal ≡ 0 → Least image wanted r.transactions r.bus_bytes;
      first : r.refusal ≡ 0 → First image wanted (list_of image numbers);
      room : r.refusal ≡ 10 → length plan < most_bytes;
    }

-- what planning promises of its answer, it promises of the numbers
pub promised : (image : List ℕ) (numbers : List ℤ) (address : ℕ) (plan after : List ℕ) (p : Result Packed Fault)
    → Clauses image numbers address plan after (answer_of p) → Promises image numbers address plan after (plan_answer (answer_of p))
promised image numbers address plan after p c =
    let wanted = wanted_by image numbers in
    record {
      answer = ap plan_answer c.answer;
      memory = c.memory;
      counted = planned (λ l t b. CountedBy anywhere (take l after) l t b) p c.counted;
      demanded = planned (λ l t b. Demanded image numbers wanted) p c.demanded;
      played = planned (λ l t b. Played image wanted (take l after)) p c.played;
      least = planned (λ l t b. Least image wanted t b) p c.least;
      first = planned (λ l t b. First image wanted (list_of image numbers)) p c.first;
      room = short p c.room;
    }
