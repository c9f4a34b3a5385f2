-- Laws of decimal text: one more digit at the end, enough steps, one digit less, and a digit written before others.
use mathlib.Core.Path.{◌≡◌, refl, sym, ap, ◌∙◌}
use mathlib.Core.List.{List, [], ◌∷◌, ◌++◌}
use Prim.Native.Nat.{ℕ, zero, suc, ◌-◌, ◌/◌, ◌%◌, ◌^◌, ◌<◌, ◌≤◌}
use native.Mathlib.Omega.{arith}
use lib.ListN.{length, drop, set, length-set}
use lib.Seq.{drop-cons, drop-set-lt, get_or-set_same}
use borrow.Author.Tests.{ne_eqb}
use Rattle.text.specs.Text.{digit, leading}

-- 0 has no leading digits
pub leading-zero : (steps : ℕ) → leading steps 0 ≡ []
unfolding leading
leading-zero zero = refl
leading-zero (suc steps) = refl

-- a positive number's last digit
pub leading_last : (steps n : ℕ) → 0 < n → leading (suc steps) n ≡ leading steps (n / 10) ++ (digit (n % 10) ∷ [])
unfolding leading
leading_last steps n h = rw (ne_eqb n 0 (λ e. omega arith))

-- one step more changes nothing, where fewer are enough for the tens
enough_more : (steps n : ℕ) → ((m : ℕ) → m ≤ steps → leading (suc steps) m ≡ leading steps m) → n ≤ suc steps
    → leading (suc (suc steps)) n ≡ leading (suc steps) n
enough_more steps zero ih h = leading-zero (suc (suc steps)) ∙ sym (leading-zero (suc steps))
enough_more steps (suc n) ih h =
    leading_last (suc steps) (suc n) (omega arith)
    ∙ ap (λ (t : List ℕ). t ++ (digit (suc n % 10) ∷ [])) (ih (suc n / 10) (omega arith))
    ∙ sym (leading_last steps (suc n) (omega arith))

-- n steps are enough
enough : (steps n : ℕ) → n ≤ steps → leading (suc steps) n ≡ leading steps n
enough zero n h = let e : n ≡ 0 = omega arith in rw e (leading-zero 1 ∙ sym (leading-zero 0))
enough (suc steps) n h = enough_more steps n (enough steps) h

-- with steps enough, the leading digits are those of the tens and then the last
pub leading_step : (steps n : ℕ) → 0 < n → n ≤ steps → leading steps n ≡ leading steps (n / 10) ++ (digit (n % 10) ∷ [])
leading_step steps n p h = sym (enough steps n h) ∙ leading_last steps n p

-- what is left after a digit is shorter by one
pub shorter : (k n : ℕ) → 0 < n → n < 10 ^ k → (0 < k) × (n / 10 < 10 ^ (k - 1))
shorter zero n p h = omega arith
shorter (suc k) n p h = let e : suc k - 1 ≡ k = omega arith in (omega arith, rw e (omega arith))

-- the byte before what is written, set to a digit
pub one-before : (bytes : List ℕ) (first d : ℕ) → 0 < first → first ≤ length bytes → drop (first - 1) (set bytes (first - 1) d) ≡ d ∷ drop first bytes
one-before bytes first d p h =
    let k = first - 1 in
    let e : suc k ≡ first = omega arith in
    drop-cons (set bytes k d) k 0 (rw (length-set bytes k d) (omega arith))
    ∙ ap (λ (x : ℕ). x ∷ drop (suc k) (set bytes k d)) (get_or-set_same bytes k d 0 (omega arith))
    ∙ ap (λ (r : List ℕ). d ∷ r) (drop-set-lt (suc k) bytes k d (omega arith))
    ∙ ap (λ (m : ℕ). d ∷ drop m bytes) e
