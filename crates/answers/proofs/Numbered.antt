-- What planning promises of its answer, it promises of the answer as numbers: where no refusal is answered, and where 10 is. Assumes nothing.
use mathlib.Core.Path.{◌≡◌, refl, ap}
use Prim.Native.Nat.{ℕ}
use native.Mathlib.Omega.{arith}
use Rattle.std.specs.Prelude.{Result, Ok, Err}
use Rattle.refusals.specs.declared.Fault.{Fault}
use Rattle.refusals.specs.declared.Refusal.{Refusal}
use Rattle.refusals.specs.declared.Refusal.TheVariants.{ImageLength, BusAddress, OutOfRange, Reserved, SquarePixelWithOversampling, PedestalWithPal}
use Rattle.refusals.specs.declared.Refusal.TheVariants.{SignallingConflict, Disagreement, PlanBytes, PlanRoom, RegisterUnknown}
use Rattle.refusals.specs.Refusal.{number_of}
use Rattle.refusals.specs.Verdict.{refused_at}
use Rattle.planning.specs.declared.plan.Packed.{Packed}
use Rattle.planning.specs.Plan.{answer_of, done}
use Rattle.answers.specs.declared.plan_numbers.PlanAnswer.{PlanAnswer}
use Rattle.answers.specs.Answers.{plan_answer}

-- a refusal's number is not that of none
pub numbered : (r : Refusal) → number_of r ≡ 0 → ⊥
numbered ImageLength e = omega arith
numbered BusAddress e = omega arith
numbered OutOfRange e = omega arith
numbered Reserved e = omega arith
numbered SquarePixelWithOversampling e = omega arith
numbered PedestalWithPal e = omega arith
numbered SignallingConflict e = omega arith
numbered Disagreement e = omega arith
numbered PlanBytes e = omega arith
numbered PlanRoom e = omega arith
numbered RegisterUnknown e = omega arith

-- planning's answer as numbers
abbrev pub numbers_of : Result Packed Fault → PlanAnswer
numbers_of p = plan_answer (answer_of p)

-- where nothing is refused, what holds of a plan's numbers holds of those answered
pub planned : (P : ℕ → ℕ → ℕ → Type 0) (p : Result Packed Fault) → ((l t b : ℕ) → answer_of p ≡ done l t b → P l t b)
    → (numbers_of p).refusal ≡ 0 → P (numbers_of p).length (numbers_of p).transactions (numbers_of p).bus_bytes
planned P (Ok k) h e = h k.length k.transactions k.bus_bytes refl
planned P (Err r) h e = absurd (numbered r.refusal e)

-- where 10 is answered, the room was refused
pub short : {P : Type 0} (p : Result Packed Fault) → ((f : ℕ) → answer_of p ≡ refused_at 10 f → P) → (numbers_of p).refusal ≡ 10 → P
short (Ok k) h e = absurd (omega arith)
short (Err r) h e = h r.field (ap (λ (n : ℕ). refused_at n r.field) e)
