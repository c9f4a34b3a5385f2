-- Document 01, "Refusals": every refusal carries its number and a field number, 0 where none applies. An answer as numbers: the refusal is 0 where
-- there is none, and after a refusal every other number is 0 but the map of known registers (document 02, P5), which is as it was handed in.
use Rattle.std.specs.Prelude.{◌≡◌, Bool, List, ℕ}
use Rattle.refusals.specs.Verdict.{Verdict, good, refused_at}
use Rattle.bus.specs.Transactions.{Transaction}
use Rattle.answers.specs.Answers.{yes_no}
use Rattle.adv7194_captions.specs.Reading.{Characters}
use Rattle.adv7194_compare.specs.Compare.{Comparison}
use Rattle.adv7194_least.specs.Aim.{Aim}
use Rattle.adv7194_reasons.specs.First.{FirstTrue}
use Rattle.adv7194_reasons.specs.Reasons.{Reason, not_sent, unknown, changed, zeroed, companion, bridge, holds, answers}
use Rattle.adv7194_answers.specs.declared.captions_numbers.CaptionsAnswer.{CaptionsAnswer}
use Rattle.adv7194_answers.specs.declared.compare_numbers.CompareAnswer.{CompareAnswer}
use Rattle.adv7194_answers.specs.declared.play_numbers.PlayAnswer.{PlayAnswer}
use Rattle.adv7194_answers.specs.declared.why_numbers.WhyAnswer.{WhyAnswer}

-- what playing answers, with the map of the registers known after it
abbrev pub play_answer : Verdict Bool → ℕ → PlayAnswer
play_answer (good b) known = record { refusal = 0; field = 0; acknowledged = yes_no b; known = known }
play_answer (refused_at n f) known = record { refusal = n; field = f; acknowledged = 0; known = known }

-- what reading a pair of captions answers
abbrev pub captions_answer : Verdict Characters → CaptionsAnswer
captions_answer (good c) = record { refusal = 0; field = 0; first = c.first; second = c.second }
captions_answer (refused_at n f) = record { refusal = n; field = f; first = 0; second = 0 }

-- what two images are side by side
abbrev pub compare_answer : Verdict Comparison → CompareAnswer
compare_answer (good c) =
    record { refusal = 0; field = 0; readable = yes_no c.readable; fields = c.fields; registers = c.registers }
compare_answer (refused_at n f) = record { refusal = n; field = f; readable = 0; fields = 0; registers = 0 }

-- nothing was refused and nothing differs
abbrev pub NothingDiffers : CompareAnswer → Type 0
NothingDiffers r = (r.refusal ≡ 0) × ((r.fields ≡ 0) × (r.registers ≡ 0))

-- a reason by its number, with what it names
abbrev pub numbered : ℕ → ℕ → ℕ → WhyAnswer
numbered reason first second = record { refusal = 0; field = 0; reason = reason; first = first; second = second }

-- a reason: not sent is 0, and the others follow in document 02's order; a field is named by its number, a bridge by the needed registers below and above
abbrev pub reason_answer : Reason → WhyAnswer
reason_answer not_sent = numbered 0 0 0
reason_answer unknown = numbered 1 0 0
reason_answer (changed f) = numbered 2 f 0
reason_answer zeroed = numbered 3 0 0
reason_answer companion = numbered 4 0 0
reason_answer (bridge i j) = numbered 5 i j

-- what asking why a register is sent answers
abbrev pub why_answer : Verdict Reason → WhyAnswer
why_answer (good k) = reason_answer k
why_answer (refused_at n f) = record { refusal = n; field = f; reason = 0; first = 0; second = 0 }

-- the numbers are those of the first answer that is true of a register
pub record TrueReason (a : Aim) (ts : List Transaction) (register : ℕ) (r : WhyAnswer) : Type 0 where
  pub reason : Reason
  pub numbers : r ≡ reason_answer reason
  pub first : FirstTrue (holds a ts register) (answers a register) reason
