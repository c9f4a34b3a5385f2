-- Document 01, "Cases on each side": a program that plans prints transactions, bus bytes, then a line a transaction; or the refusal, by its number and
-- its field.
use Rattle.std.specs.Prelude.{◌≡◌, ℕ, ◌≤◌, length, take}
use mathlib.Core.List.{List, [], ◌++◌, flat_map}
use Rattle.refusals.specs.Verdict.{Verdict, good, refused_at}
use Rattle.bus.specs.Transactions.{Transaction, bus_bytes}
use Rattle.unpacking.specs.Unpacking.{unpack}
use Rattle.unpacking.specs.Listed.{listed, Accepted}
use Rattle.listing.specs.declared.Word.{Word}
use Rattle.listing.specs.declared.Word.TheVariants.{Plan, Refused, Other}
use Rattle.listing.specs.Lines.{plan_line, refused_line}
use Rattle.listing.specs.Written.{word_of}
use Rattle.plan_listing.specs.PlanText.{transaction_line}
use Rattle.planning.specs.Plan.{Counts, counts_of}

-- the first line of an answer: the plan's transactions and bus bytes, or the refusal
abbrev pub first_line : Verdict Counts → List ℕ
first_line (good n) = plan_line n.transactions n.bus_bytes
first_line (refused_at n f) = refused_line n f

-- how many bytes of the lent plan hold an answer's plan: none for a refusal
abbrev pub packed_bytes : Verdict Counts → ℕ
packed_bytes (good n) = n.length
packed_bytes (refused_at n f) = 0

-- the lines that follow a word: a line a transaction below PLAN, none below another
abbrev pub lines_below : Word → List Transaction → List ℕ
lines_below Plan ts = flat_map transaction_line ts
lines_below Refused ts = []
lines_below Other ts = []

-- a first line with those that follow its word
abbrev pub text_below : List ℕ → List Transaction → List ℕ
text_below line ts = line ++ lines_below (word_of line) ts

-- the text of an answer: transactions, bus bytes, then the text of each transaction; or the line of the refusal
abbrev pub answer_text : (Transaction → List ℕ) → List Transaction → Verdict Counts → List ℕ
answer_text text ts (good n) = plan_line (length ts) (bus_bytes ts) ++ flat_map text ts
answer_text text ts (refused_at n f) = refused_line n f

-- the transactions of an answer: those that its bytes of the plan unpack to
abbrev pub list_in : List ℕ → Verdict Counts → List Transaction
list_in plan v = listed (unpack (take (packed_bytes v) plan))

-- the first bytes of a plan, as many as some counts say, unpack to a list of these counts
pub record Counted (plan : List ℕ) (n : Counts) : Type 0 where
  pub within : n.length ≤ length plan
  pub is_well_formed : Accepted (take n.length plan)
  pub counts : counts_of (list_in plan (good n)) ≡ n

-- they do where an answer is good
abbrev pub Holds : List ℕ → Verdict Counts → Type 0
Holds plan (good n) = Counted plan n
Holds plan (refused_at n f) = Unit {0}
