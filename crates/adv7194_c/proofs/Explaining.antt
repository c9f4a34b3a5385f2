-- Document 02, P7, of whatever is answered in numbers of why a register is sent: it is the first answer that is true. Assumes nothing.
use mathlib.Core.Path.{◌≡◌, refl, ap}
use mathlib.Core.List.{List}
use Prim.Native.Nat.{ℕ}
use lib.IntN.{ℤ}
use Rattle.std.specs.Prelude.{Result, Ok, Err}
use Rattle.refusals.specs.declared.Fault.{Fault}
use Rattle.refusals.specs.Verdict.{good}
use Rattle.adv7194_bus.specs.declared.board.Board.{Board}
use Rattle.adv7194_least.specs.Aim.{aim_of}
use Rattle.adv7194_planning.specs.Rows.{list_of}
use Rattle.adv7194_reasons.specs.declared.Reason as declared
use Rattle.adv7194_reasons.specs.First.{FirstTrue}
use Rattle.adv7194_reasons.specs.Reasons.{Reason, holds, answers}
use Rattle.adv7194_reasons.specs.Why.{reason_as, why_of, why_as}
use Rattle.adv7194_answers.specs.declared.why_numbers.WhyAnswer.{WhyAnswer}
use Rattle.adv7194_answers.specs.Answers.{why_answer, TrueReason}
use Rattle.answers.proofs.Numbered.{numbered}

-- a reason's answer refuses nothing: one without a refusal's number is a reason
record Given (p : Result declared.Reason Fault) : Type 0 where
  reason : Reason
  is : why_as p ≡ good reason

given : (p : Result declared.Reason Fault) → (why_answer (why_as p)).refusal ≡ 0 → Given p
given (Ok k) e = record { reason = reason_as k; is = refl }
given (Err r) e = absurd (numbered r.refusal e)

module _ (b : Board) (zs : List ℤ) (limit register : ℕ) where
  -- all that is promised of the numbers answered
  abbrev pub Explains : WhyAnswer → Type 0
  Explains r =
      record {
        answer : r ≡ why_answer (why_of b zs limit register);
        reason : r.refusal ≡ 0 → TrueReason (aim_of b zs limit) (list_of b zs limit) register r;
      }

  -- what is promised of the answer is promised of the numbers
  pub explains : (p : Result declared.Reason Fault) → why_as p ≡ why_of b zs limit register
      → ((k : Reason) → why_as p ≡ good k → FirstTrue (holds (aim_of b zs limit) (list_of b zs limit) register) (answers (aim_of b zs limit) register) k)
      → Explains (why_answer (why_as p))
  explains p e true = record {
    answer = ap why_answer e;
    reason = λ z. let g = given p z in record { reason = g.reason; numbers = ap why_answer g.is; first = true g.reason g.is };
  }
