-- Document 01, "Refusals": every refusal carries its number and a field number, 0 where none applies. An answer as numbers: the refusal is 0 where
-- there is none, and after a refusal every other number is 0.
use Rattle.std.specs.Prelude.{Bool, true, false, ℕ}
use Rattle.refusals.specs.Refusal.{Judged, accepted, refused}
use Rattle.refusals.specs.Verdict.{Verdict, good, refused_at}
use Rattle.unpacking.specs.Indexed.{Numbers}
use Rattle.planning.specs.Plan.{Counts}
use Rattle.answers.specs.declared.plan_numbers.PlanAnswer.{PlanAnswer}
use Rattle.answers.specs.declared.read_numbers.ReadAnswer.{ReadAnswer}
use Rattle.answers.specs.declared.transaction_numbers.TransactionAnswer.{TransactionAnswer}

-- what planning answers
abbrev pub plan_answer : Verdict Counts → PlanAnswer
plan_answer (good n) =
    record { refusal = 0; field = 0; length = n.length; transactions = n.transactions; bus_bytes = n.bus_bytes }
plan_answer (refused_at n f) = record { refusal = n; field = f; length = 0; transactions = 0; bus_bytes = 0 }

-- what reading answers
abbrev pub read_answer : Verdict (Unit {0}) → ReadAnswer
read_answer (good u) = record { refusal = 0; field = 0 }
read_answer (refused_at n f) = record { refusal = n; field = f }

-- what asking for a transaction answers; its refusals belong to no field
abbrev pub transaction_answer : Judged Numbers → TransactionAnswer
transaction_answer (accepted h) = record { refusal = 0; field = 0; subaddress = h.subaddress; count = h.count }
transaction_answer (refused n) = record { refusal = n; field = 0; subaddress = 0; count = 0 }

-- a yes is 1
abbrev pub yes_no : Bool → ℕ
yes_no true = 1
yes_no false = 0
