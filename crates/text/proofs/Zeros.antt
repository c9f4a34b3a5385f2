-- Zeros in a row: how many, the first of them, and the others. Assumes nothing.
use mathlib.Core.Path.{◌≡◌, sym, ap, ◌∙◌}
use mathlib.Core.List.{◌++◌}
use Prim.Native.Nat.{ℕ, ◌+◌, ◌-◌, ◌≤◌}
use native.Mathlib.Omega.{arith}
use lib.ListN.{length, take, drop, length-replicate, replicate-append-replicate}
use lib.Seq.{take_at, drop_at}
use Rattle.text.specs.Line.{zeros}

pub length-zeros : (n : ℕ) → length (zeros n) ≡ n
length-zeros n = length-replicate {A = ℕ} n 0

module _ (k n : ℕ) (h : k ≤ n) where
  -- n zeros are k and the others
  split : zeros n ≡ zeros k ++ zeros (n - k)
  split = let e : n ≡ k + (n - k) = omega arith in ap zeros e ∙ sym (replicate-append-replicate {A = ℕ} k (n - k) 0)

  pub take-zeros : take k (zeros n) ≡ zeros k
  take-zeros = ap (take k) split ∙ take_at (zeros k) (zeros (n - k)) k (length-zeros k)

  pub drop-zeros : drop k (zeros n) ≡ zeros (n - k)
  drop-zeros = ap (drop k) split ∙ drop_at (zeros k) (zeros (n - k)) k (length-zeros k)
