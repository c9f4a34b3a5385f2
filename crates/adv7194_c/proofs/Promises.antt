-- Demands 1, 2 and 3 of whatever planning answers in numbers and leaves. Assumes nothing.
use mathlib.Core.Path.{◌≡◌, ap}
use mathlib.Core.List.{List}
use Prim.Native.Nat.{ℕ, ◌≤◌, ◌<◌}
use lib.IntN.{ℤ}
use lib.ListN.{length, take}
use Rattle.unpacking.specs.Unpacking.{CountedBy}
use Rattle.adv7194_bus.specs.declared.board.Board.{Board}
use Rattle.adv7194_settings.specs.Wanted.{wanted_by}
use Rattle.adv7194_settings.specs.Demand.{Demanded}
use Rattle.adv7194_least.specs.Aim.{aim_of}
use Rattle.adv7194_least.specs.Played.{Played}
use Rattle.adv7194_least.specs.Demands.{Least, First, Only, most_bytes, wide_limit, wide_bytes}
use Rattle.std.specs.Prelude.{Result}
use Rattle.refusals.specs.declared.Fault.{Fault}
use Rattle.planning.specs.declared.plan.Packed.{Packed}
use Rattle.adv7194_planning.specs.Rows.{list_of}
use Rattle.planning.specs.Plan.{answer_of}
use Rattle.adv7194_planning.specs.Planning.{planning_of, plan_left}
use Rattle.adv7194_planning.proofs.Clauses.{Clauses}
use Rattle.answers.specs.declared.plan_numbers.PlanAnswer.{PlanAnswer}
use Rattle.answers.specs.Answers.{plan_answer}
use Rattle.answers.proofs.Numbered.{planned, short}
use Rattle.packing.specs.Packing.{behind}

-- all that planning promises of the numbers answered, and of what it leaves of the lent plan
abbrev pub Promises : Board → List ℤ → ℕ → ℕ → List ℕ → List ℕ → PlanAnswer → Type 0
Promises board numbers address limit plan after r =
    let image = board.registers in
    let aim = aim_of board numbers limit in
    record {
      answer : r ≡ plan_answer (planning_of board numbers address limit (length plan));
      memory : after ≡ plan_left board numbers address limit plan;
      counted : r.refusal ≡ 0 → CountedBy behind (take r.length after) r.length r.transactions r.bus_bytes;
      demanded : r.refusal ≡ 0 → Demanded image numbers (wanted_by image numbers);
      played : r.refusal ≡ 0 → Played aim (take r.length after);
      least : r.refusal ≡ 0 → Least aim r.transactions r.bus_bytes;
      first : r.refusal ≡ 0 → First aim (list_of board numbers limit);
      only : r.refusal ≡ 0 → Only aim (list_of board numbers limit);
      room : r.refusal ≡ 10 → (length plan < most_bytes) × (wide_limit ≤ limit → length plan < wide_bytes);
    }

-- what planning promises of its answer, it promises of the numbers
pub promised : (board : Board) (numbers : List ℤ) (address limit : ℕ) (plan after : List ℕ) (p : Result Packed Fault)
    → Clauses board numbers address limit plan after (answer_of p) → Promises board numbers address limit plan after (plan_answer (answer_of p))
promised board numbers address limit plan after p c =
    let image = board.registers in
    let aim = aim_of board numbers limit in
    record {
      answer = ap plan_answer c.answer;
      memory = c.memory;
      counted = planned (λ l t b. CountedBy behind (take l after) l t b) p c.counted;
      demanded = planned (λ l t b. Demanded image numbers (wanted_by image numbers)) p c.demanded;
      played = planned (λ l t b. Played aim (take l after)) p c.played;
      least = planned (λ l t b. Least aim t b) p c.least;
      first = planned (λ l t b. First aim (list_of board numbers limit)) p c.first;
      only = planned (λ l t b. Only aim (list_of board numbers limit)) p c.only;
      room = short p c.room;
    }
