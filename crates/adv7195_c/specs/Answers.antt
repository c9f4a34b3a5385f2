-- Document 01, "Refusals": playing's answer as numbers. The refusal is 0 where there is none, its field is always 0, and after a refusal every other number
-- is 0.
use Rattle.std.specs.Prelude.{Bool}
use Rattle.refusals.specs.Verdict.{Verdict, good, refused_at}
use Rattle.answers.specs.Answers.{yes_no}
use Rattle.adv7195_c.specs.declared.play_numbers.PlayAnswer.{PlayAnswer}

-- what playing answers
abbrev pub play_answer : Verdict Bool → PlayAnswer
play_answer (good b) = record { refusal = 0; field = 0; acknowledged = yes_no b }
play_answer (refused_at n f) = record { refusal = n; field = f; acknowledged = 0 }
