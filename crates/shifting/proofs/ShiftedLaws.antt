-- Bytes shifted a part at a time. Assumes nothing.
use mathlib.Core.Path.{◌≡◌, refl, sym, ap, ◌∙◌}
use mathlib.Core.List.{List, [], ◌∷◌, ◌++◌}
use Prim.Native.Nat.{ℕ, suc, ◌+◌, ◌<◌}
use native.Mathlib.Nat.{add-zero}
use native.Mathlib.Omega.{arith}
use lib.ListN.{length, take, get_or, set}
use lib.Seq.{sets, length-take-le}
use Rattle.std.proofs.lemmas.List.{take_more}
use Rattle.shifting.specs.Shifted.{between, shifted, last_from}

-- they are as many
pub shifted-length : (held before : ℕ) (bs : List ℕ) → length (shifted held before bs) ≡ length bs
unfolding shifted
shifted-length held before [] = refl
shifted-length held before (b ∷ bs) = ap suc (shifted-length held b bs)

-- of two parts the second follows the last byte of the first
shifted-append : (held before : ℕ) (xs ys : List ℕ) → shifted held before (xs ++ ys) ≡ shifted held before xs ++ shifted held (last_from before xs) ys
unfolding shifted
shifted-append held before [] ys = refl
shifted-append held before (x ∷ xs) ys = ap (λ (l : List ℕ). between held before x ∷ l) (shifted-append held x xs ys)

-- and so does the last byte of both
pub last_append : (before : ℕ) (xs ys : List ℕ) → last_from before (xs ++ ys) ≡ last_from (last_from before xs) ys
last_append before [] ys = refl
last_append before (x ∷ xs) ys = last_append x xs ys

-- two parts stored one after the other
sets-append : (l : List ℕ) (i : ℕ) (xs ys : List ℕ) → sets l i (xs ++ ys) ≡ sets (sets l i xs) (i + length xs) ys
sets-append l i [] ys = ap (λ (k : ℕ). sets l k ys) (sym (add-zero i))
sets-append l i (x ∷ xs) ys =
    let on : suc i + length xs ≡ i + suc (length xs) = omega arith in
    sets-append (set l i x) (suc i) xs ys ∙ ap (λ (k : ℕ). sets (sets (set l i x) (suc i) xs) k ys) on

-- a part more, of any length
pub more : (l : List ℕ) (at held before : ℕ) (xs ys : List ℕ)
    → sets (sets l at (shifted held before xs)) (at + length xs) (shifted held (last_from before xs) ys) ≡ sets l at (shifted held before (xs ++ ys))
more l at held before xs ys =
    sym (ap (sets l at) (shifted-append held before xs ys) ∙ sets-append l at (shifted held before xs) (shifted held (last_from before xs) ys)
    ∙ ap (λ (n : ℕ). sets (sets l at (shifted held before xs)) (at + n) (shifted held (last_from before xs) ys)) (shifted-length held before xs))

-- a byte more, shifted after those before it
pub one_more : (l : List ℕ) (at held before i : ℕ) (bs : List ℕ) → i < length bs
    → set (sets l at (shifted held before (take i bs))) (at + i) (between held (last_from before (take i bs)) (get_or bs i 0))
    ≡ sets l at (shifted held before (take (i + 1) bs))
unfolding shifted
one_more l at held before i bs h =
    let xs = take i bs in
    let x = get_or bs i 0 in
    ap (λ (k : ℕ). set (sets l at (shifted held before xs)) (at + k) (between held (last_from before xs) x)) (sym (length-take-le i bs (omega arith)))
    ∙ more l at held before xs (x ∷ []) ∙ ap (λ (ys : List ℕ). sets l at (shifted held before ys)) (sym (take_more bs i 0 h))

-- which is the last of them
pub last_more : (before i : ℕ) (bs : List ℕ) → i < length bs → get_or bs i 0 ≡ last_from before (take (i + 1) bs)
last_more before i bs h =
    sym (ap (last_from before) (take_more bs i 0 h) ∙ last_append before (take i bs) (get_or bs i 0 ∷ []))
