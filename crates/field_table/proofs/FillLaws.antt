-- Numbers filled one after the other from a list. Assumes nothing.
use mathlib.Core.Path.{◌≡◌, refl, sym, ap, ◌∙◌}
use mathlib.Core.List.{List, [], ◌∷◌, ◌++◌}
use Prim.Native.Nat.{ℕ, ◌+◌, ◌≤◌, ◌<◌}
use native.Mathlib.Numerals.{add-one}
use native.Mathlib.Omega.{arith}
use lib.IntN.{ℤ, pos}
use lib.ListN.{length, set, take, get_or, length-set}
use lib.Seq.{take_all, take-suc, take-suc-set}

-- as many numbers as a list has, of which the first i are the list's
pub record Filled (l out : List ℤ) (i : ℕ) : Type 0 where
  pub within : i ≤ length l
  pub long : length out ≡ length l
  pub done : take i out ≡ take i l

-- none yet
pub fill_none : {l out : List ℤ} → length out ≡ length l → Filled l out 0
fill_none e = record { within = omega arith; long = e; done = refl }

-- one more
pub fill_next : {l out : List ℤ} {i : ℕ} {z : ℤ} → i < length l → z ≡ get_or l i (pos 0) → Filled l out i → Filled l (set out i z) (i + 1)
fill_next {l} {out} {i} {z} h e f =
    let n = f.long in
    record {
      within = omega arith;
      long = length-set out i z ∙ f.long;
      done =
          rw add-one
          (take-suc-set out i z (omega arith) ∙ ap (λ (x : ℤ). take i out ++ (x ∷ [])) e ∙ ap (λ (xs : List ℤ). xs ++ (get_or l i (pos 0) ∷ [])) f.done
          ∙ sym (take-suc l i (pos 0) h));
    }

-- all of them
pub fill_all : {l out : List ℤ} {i : ℕ} → length l ≤ i → Filled l out i → out ≡ l
fill_all {l} {out} {i} h f = let n = f.long in sym (take_all i out (omega arith)) ∙ f.done ∙ take_all i l h
