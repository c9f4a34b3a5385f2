-- Document 02, P1, of whatever comparing answers in numbers: nothing differs exactly where the images agree, register 34 excepted. Assumes nothing.
use mathlib.Core.Path.{◌≡◌, refl, ap}
use mathlib.Core.List.{List}
use Prim.Native.Nat.{ℕ}
use Rattle.std.specs.Prelude.{Result, Ok, Err}
use Rattle.refusals.specs.declared.Fault.{Fault}
use Rattle.adv7194_compare.specs.declared.differences.Differences as declared
use Rattle.adv7194_compare.specs.Differences.{Equal}
use Rattle.adv7194_compare.specs.Compare.{compared_as, compare_of, OnlyEqual}
use Rattle.adv7194_answers.specs.declared.compare_numbers.CompareAnswer.{CompareAnswer}
use Rattle.adv7194_answers.specs.Answers.{compare_answer, NothingDiffers}
use Rattle.answers.proofs.Numbered.{numbered}

-- all that comparing promises of the numbers answered
abbrev pub Compares : List ℕ → List ℕ → CompareAnswer → Type 0
Compares a b r =
    record {
      answer : r ≡ compare_answer (compare_of a b);
      empty : Equal a b → NothingDiffers r;
      only : NothingDiffers r → Equal a b;
    }

-- what comparing promises of its answer, it promises of the numbers
pub compares : (a b : List ℕ) (p : Result declared.Differences Fault) → compared_as p ≡ compare_of a b → OnlyEqual a b (compared_as p)
    → Compares a b (compare_answer (compared_as p))
compares a b (Ok d) e q = record { answer = ap compare_answer e; empty = λ h. (refl, q.empty h); only = λ n. q.only n.1 }
compares a b (Err r) e q = record { answer = ap compare_answer e; empty = λ h. absurd (q.empty h); only = λ n. absurd (numbered r.refusal n.0) }
