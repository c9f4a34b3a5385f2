-- A fact of every number below a bound, from one test that is computed at each; a map against a test on registers. Assumes nothing.
use mathlib.Core.Path.{◌≡◌, refl, sym, ◌∙◌, subst⁻¹}
use mathlib.Core.Bool.{Bool, true, false, not, ◌&&◌}
use Prim.Native.Nat.{ℕ, zero, suc, ◌^◌, ◌≤◌, ◌<◌}
use native.Mathlib.Omega.{arith}
use lib.Dec.{T, ltb, eqb}
use borrow.Author.Tests.{ltb-true, ltb-false, eqb-true, eqb-false}
use Rattle.bits.specs.Maps.{has}
use Rattle.bits.proofs.FlagLaws.{first, second}
use Rattle.bits.proofs.SetLaws.{has-past}

-- two tests have one answer
unfoldable pub agrees : Bool → Bool → Bool
agrees true b = b
agrees false b = not b

pub same_bool : (a b : Bool) → T (agrees a b) → a ≡ b
unfolding agrees
same_bool true true h = refl
same_bool true false h = absurd h
same_bool false true h = absurd h
same_bool false false h = refl

-- one test below n
unfoldable pub below : ℕ → (ℕ → Bool) → Bool
below zero P = true
below (suc n) P = P n && below n P

-- holds at each number below n
pub at-below : (n : ℕ) (P : ℕ → Bool) → T (below n P) → (r : ℕ) → r < n → T (P r)
unfolding below
at-below zero P h r k = absurd (omega arith)
at-below (suc n) P h r k = split (eqb r n) refl (at-below n P (second (P n) (below n P) h) r)
  where
    split : (b : Bool) → eqb r n ≡ b → (r < n → T (P r)) → T (P r)
    split true e ih = subst⁻¹ (λ (m : ℕ). T (P m)) (eqb-true r n e) (first (P n) (below n P) h)
    split false e ih = let z = eqb-false r n e in ih (omega arith)

-- a map has the registers that pass a test, where it does below 64 and none beyond passes
pub map_is : (m : ℕ) (test : ℕ → Bool) → m < 2 ^ 64 → T (below 64 (λ i. agrees (has m i) (test i))) → ((i : ℕ) → 64 ≤ i → test i ≡ false)
    → (i : ℕ) → has m i ≡ test i
map_is m test small same past i = split (ltb i 64) refl
  where
    split : (b : Bool) → ltb i 64 ≡ b → has m i ≡ test i
    split true e = same_bool (has m i) (test i) (at-below 64 (λ i. agrees (has m i) (test i)) same i (ltb-true i 64 e))
    split false e = let h = ltb-false i 64 e in has-past 64 m i small h ∙ sym (past i h)
