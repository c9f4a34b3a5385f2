-- Laws of number text: decimal text is never empty, has only digits and no leading zero, is read back to the number, and has no more digits than the
-- power of ten above the number; hexadecimal text of a byte has two digits.
use mathlib.Core.Path.{◌≡◌, refl, sym, ◌∙◌}
use mathlib.Core.Bool.{Bool, true, false, cond}
use mathlib.Core.List.{List, [], ◌∷◌, ◌++◌}
use Prim.Native.Nat.{ℕ, zero, suc, ◌+◌, ◌-◌, ◌*◌, ◌/◌, ◌%◌, ◌^◌, ◌<◌, ◌≤◌}
use lib.Dec.{eqb}
use native.Mathlib.Omega.{arith}
use lib.ListN.{length, length-append}
use borrow.Author.Tests.{eqb-true, eqb-false}
use Rattle.text.specs.Text.{digit, leading, decimal, hex_byte}
use Rattle.text.proofs.DigitLists.{shorter}

-- every code is one of a decimal digit
abbrev pub OnlyDigits : List ℕ → Type 0
OnlyDigits [] = Unit
OnlyDigits (x ∷ xs) = (0x30 ≤ x) × (x < 0x3a) × OnlyDigits xs

-- the number that digits say, after those that say `front`
abbrev pub value : ℕ → List ℕ → ℕ
value front [] = front
value front (x ∷ xs) = value (front * 10 + (x - 0x30)) xs

only-append : (a b : List ℕ) → OnlyDigits a → OnlyDigits b → OnlyDigits (a ++ b)
only-append [] b p q = q
only-append (x ∷ a) b p q = (p.0, p.1, only-append a b p.2 q)

value-append : (front : ℕ) (a b : List ℕ) → value front (a ++ b) ≡ value (value front a) b
value-append front [] b = refl
value-append front (x ∷ a) b = value-append (front * 10 + (x - 0x30)) a b

only_last : (n : ℕ) → OnlyDigits (digit (n % 10) ∷ [])
only_last n = (omega arith, omega arith, tt)

-- leading digits are digits
only-leading : (steps n : ℕ) → OnlyDigits (leading steps n)
unfolding leading
only-leading zero n = tt
only-leading (suc steps) n = pick (only-leading steps (n / 10)) (eqb n 0)
  where
    pick : OnlyDigits (leading steps (n / 10)) → (b : Bool) → OnlyDigits (cond b [] (leading steps (n / 10) ++ (digit (n % 10) ∷ [])))
    pick ih true = tt
    pick ih false = only-append (leading steps (n / 10)) (digit (n % 10) ∷ []) ih (only_last n)

-- decimal text has only digits
pub only-decimal : (n : ℕ) → OnlyDigits (decimal n)
unfolding decimal
only-decimal n = only-append (leading n (n / 10)) (digit (n % 10) ∷ []) (only-leading n (n / 10)) (only_last n)

-- decimal text is never empty
pub decimal-some : (n : ℕ) → 0 < length (decimal n)
unfolding decimal
decimal-some n = omega (arith, length-append (leading n (n / 10)) (digit (n % 10) ∷ []))

-- leading digits say the number
value-leading : (steps n : ℕ) → n ≤ steps → value 0 (leading steps n) ≡ n
unfolding leading
value-leading zero n h = omega arith
value-leading (suc steps) n h = pick (value-leading steps (n / 10)) (eqb n 0) refl
  where
    pick : (n / 10 ≤ steps → value 0 (leading steps (n / 10)) ≡ n / 10) → (b : Bool) → eqb n 0 ≡ b
        → value 0 (cond b [] (leading steps (n / 10) ++ (digit (n % 10) ∷ []))) ≡ n
    pick ih true e = sym (eqb-true n 0 e)
    pick ih false e =
        let tens : value 0 (leading steps (n / 10)) ≡ n / 10 = ih (omega (arith, eqb-false n 0 e)) in
        value-append 0 (leading steps (n / 10)) (digit (n % 10) ∷ []) ∙ rw tens (omega arith)

-- decimal text read back is the number
pub decimal-value : (n : ℕ) → value 0 (decimal n) ≡ n
unfolding decimal
decimal-value n =
    value-append 0 (leading n (n / 10)) (digit (n % 10) ∷ []) ∙ rw (value-leading n (n / 10) (omega arith)) (omega arith)

-- a number below a power of ten has no more leading digits than that power
leading-most : (steps k n : ℕ) → n < 10 ^ k → length (leading steps n) ≤ k
unfolding leading
leading-most zero k n h = omega arith
leading-most (suc steps) k n h = pick (leading-most steps (k - 1) (n / 10)) (eqb n 0) refl
  where
    pick : (n / 10 < 10 ^ (k - 1) → length (leading steps (n / 10)) ≤ k - 1) → (b : Bool) → eqb n 0 ≡ b
        → length (cond b [] (leading steps (n / 10) ++ (digit (n % 10) ∷ []))) ≤ k
    pick ih true e = omega arith
    pick ih false e =
        let s = shorter k n (omega (arith, eqb-false n 0 e)) h in
        omega (arith, s.0, ih s.1, length-append (leading steps (n / 10)) (digit (n % 10) ∷ []))

-- and no more digits, one at least
pub decimal-most : (k n : ℕ) → n < 10 ^ suc k → length (decimal n) ≤ suc k
unfolding decimal
decimal-most k n h =
    omega (arith, leading-most n k (n / 10) (omega arith), length-append (leading n (n / 10)) (digit (n % 10) ∷ []))

-- a byte's hexadecimal text has two digits
pub hex_length : (b : ℕ) → length (hex_byte b) ≡ 2
unfolding hex_byte
hex_length b = refl
