-- The number's text is the leading digits of what is left, then the digits written, and the bytes before them are zero and enough for what is left.
use Rattle.std.proofs.Common.{◌≡◌, ℕ, ◌-◌, ◌^◌, ◌<◌, ◌≤◌, List, ◌++◌, length, take, drop}
use Rattle.text.specs.Line.{zeros}
use Rattle.text.specs.Text.{decimal, leading}
use Rattle.text.proofs.number.decimal_digits.Given as goal

pub record Written (n : ℕ) (bytes : List ℕ) (first rest : ℕ) : Type 0 where
  pub long : length bytes ≡ 21
  pub free : 0 < first
  pub some : first < 21
  pub less : rest ≤ n
  pub short : rest < 10 ^ (first - 1)
  pub clear : take first bytes ≡ zeros first
  pub text : leading n rest ++ drop first bytes ≡ decimal n

abbrev pub invariant-loop-rest : goal.invariant-loop-rest
invariant-loop-rest l = Written l.n l.bytes l.first l.rest

abbrev pub decreases-loop-rest : goal.decreases-loop-rest
decreases-loop-rest l = l.rest
