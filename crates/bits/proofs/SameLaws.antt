-- Bytes compared: the test finds lists that are equal; bytes are equal where their bits are. Assumes nothing.
use mathlib.Core.Path.{◌≡◌, refl, sym, ap, ap₂, ◌∙◌}
use mathlib.Core.Bool.{Bool, true, false}
use mathlib.Core.List.{List, [], ◌∷◌}
use Prim.Native.Nat.{ℕ, ◌^◌, ◌<◌}
use lib.Dec.{T, eqb, ltb, eqb→eq}
use lib.ListN.{length, get_or}
use lib.Seq.{ext_get_or}
use borrow.Author.Tests.{eq-eqb, ltb-true, ltb-false}
use Rattle.bits.specs.Fields.{bit}
use Rattle.bits.specs.Maps.{has}
use Rattle.bits.specs.Bytes.{same_bytes}
use Rattle.bits.proofs.FlagLaws.{first, second}
use Rattle.bits.proofs.SetLaws.{has-past, same_map}

-- two lists that the test finds the same
pub same_bytes_lem : (xs ys : List ℕ) → T (same_bytes xs ys) → xs ≡ ys
unfolding same_bytes
same_bytes_lem [] [] t = refl
same_bytes_lem [] (y ∷ ys) t = absurd t
same_bytes_lem (x ∷ xs) [] t = absurd t
same_bytes_lem (x ∷ xs) (y ∷ ys) t =
    ap₂ (λ (a : ℕ) (l : List ℕ). a ∷ l) (eqb→eq x y (first (eqb x y) (same_bytes xs ys) t)) (same_bytes_lem xs ys (second (eqb x y) (same_bytes xs ys) t))

-- a list is the same as itself
pub same_self : (l : List ℕ) → same_bytes l l ≡ true
unfolding same_bytes
same_self [] = refl
same_self (x ∷ xs) = rw (eq-eqb x x refl) (same_self xs)

-- two bytes with the same bits are the same
pub same_byte : (a b : ℕ) → a < 2 ^ 8 → b < 2 ^ 8 → ((i : ℕ) → i < 8 → bit i a ≡ bit i b) → a ≡ b
same_byte a b ha hb same = same_map a b (λ i. at i (ltb i 8) refl)
  where
    at : (i : ℕ) (t : Bool) → ltb i 8 ≡ t → has a i ≡ has b i
    at i true p = ap (λ (x : ℕ). eqb x 1) (same i (ltb-true i 8 p))
    at i false p = has-past 8 a i ha (ltb-false i 8 p) ∙ sym (has-past 8 b i hb (ltb-false i 8 p))

-- and so are lists of them
pub same-registers : (a b : List ℕ) → length a ≡ length b → ((r : ℕ) → get_or a r 0 < 2 ^ 8) → ((r : ℕ) → get_or b r 0 < 2 ^ 8)
    → ((r i : ℕ) → i < 8 → bit i (get_or a r 0) ≡ bit i (get_or b r 0)) → a ≡ b
same-registers a b size ha hb same = ext_get_or 0 a b size (λ r h. same_byte (get_or a r 0) (get_or b r 0) (ha r) (hb r) (same r))
