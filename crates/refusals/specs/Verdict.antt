-- Document 01, "Refusals": every refusal carries its number and a field number, 0 where none applies.
use Rattle.std.specs.Prelude.{Bool, cond, ℕ, Result, Ok, Err}
use Rattle.refusals.specs.Refusal.{Judged, accepted, refused, number_of}
use Rattle.refusals.specs.declared.Fault.{Fault}

-- a value, or a refusal by its number and its field's
pub data Verdict (A : Type 0) : Type 0 where
  good : A → Verdict A
  refused_at : ℕ → ℕ → Verdict A

-- what a function finds, as document 01 answers it
abbrev pub verdict_as : {A : Type 0} → Result A Fault → Verdict A
verdict_as (Ok a) = good a
verdict_as (Err e) = refused_at (number_of e.refusal) e.field

-- a verdict, and after it another one, which counts only where the first is good
abbrev pub after : {A B : Type 0} → Verdict A → Verdict B → Verdict B
after (good a) v = v
after (refused_at n f) v = refused_at n f

-- the fault that a coding is at a field
abbrev pub fault_of : {A : Type 0} → ℕ → Judged A → Verdict (Unit {0})
fault_of f (accepted a) = good tt
fault_of f (refused n) = refused_at n f

-- the fault where a row holds at a field
abbrev pub fault_where : Bool → ℕ → ℕ → Verdict (Unit {0})
fault_where holds n f = cond holds (refused_at n f) (good tt)

-- what an answer leaves of something lent: as it was after a refusal
abbrev pub left_by : {A B : Type 0} → B → B → Verdict A → B
left_by before after (good a) = after
left_by before after (refused_at n f) = before
