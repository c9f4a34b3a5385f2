-- A pair's test by its length, and what a right pair is. Assumes nothing.
use mathlib.Core.Path.{◌≡◌, refl, sym, ◌∙◌, subst⁻¹}
use mathlib.Core.Bool.{true, false, ◌&&◌, false≢true}
use mathlib.Core.List.{List, [], ◌∷◌}
use Prim.Native.Nat.{◌+◌, ◌^◌, ◌<◌}
use native.Mathlib.Omega.{arith}
use borrow.Author.Tests.{eq-eqb, ne_eqb}
use lib.Dec.{T, leb, ltb, leb→le}
use lib.IntN.{ℤ, pos, negsuc, nat_abs}
use lib.ListN.{length, get_or}
use lib.Signed.{non_neg}
use Rattle.bits.proofs.FlagLaws.{first, second, holds}
use Rattle.adv7194_captions.specs.Characters.{is_character}
use Rattle.adv7194_captions.specs.Pairs.{pair_right, pairs_right}

-- ---- one character

-- a character is a number of seven bits
pub record Character (z : ℤ) : Type 0 where
  pub sign : T (non_neg z)
  pub small : nat_abs z < 2 ^ 7

pub character : (z : ℤ) → is_character z ≡ true → Character z
character (pos n) e = record { sign = tt; small = omega (arith, leb→le n 127 (second (leb 0 n) (leb n 127) (subst⁻¹ T e tt))) }
character (negsuc n) e = absurd (subst⁻¹ T e tt)

-- ---- a pair

-- none is right
pub none_right : (zs : List ℤ) → length zs ≡ 0 → pair_right zs ≡ true
none_right zs h = rw (eq-eqb (length zs) 0 h)

-- another length than none and two is wrong
pub length_wrong : (zs : List ℤ) → (length zs ≡ 0 → ⊥) → (length zs ≡ 2 → ⊥) → pair_right zs ≡ false
length_wrong zs h k = rw (ne_eqb (length zs) 0 h, ne_eqb (length zs) 2 k)

-- three or more are
pub too_many : {A : Type 0} (a b c : ℤ) (zs : List ℤ) → pair_right (a ∷ b ∷ c ∷ zs) ≡ true → A
too_many a b c zs e =
    absurd (false≢true (sym (length_wrong (a ∷ b ∷ c ∷ zs) (λ n. omega arith) (λ n. omega arith)) ∙ e))

-- two numbers are right where they are characters
pub two_right : (zs : List ℤ) → length zs ≡ 2 → pair_right zs ≡ (is_character (get_or zs 0 (pos 0)) && is_character (get_or zs 1 (pos 0)))
two_right [] h = absurd (omega arith)
two_right (a ∷ []) h = absurd (omega arith)
two_right (a ∷ b ∷ []) h = refl
two_right (a ∷ b ∷ c ∷ zs) h = absurd (omega arith)

-- a right pair that is given
characters : (a b : ℤ) → pair_right (a ∷ b ∷ []) ≡ true → Character a × Character b
characters a b e =
    let p = is_character a in
    let q = is_character b in
    let t = subst⁻¹ T e tt in
    (character a (holds p (first p q t)), character b (holds q (second p q t)))

-- ---- the pairs of a call

-- right pairs: the ordinary one, the extended one, or both
pub data Right : List ℤ → List ℤ → Type 0 where
  ordinary-alone : {c d : ℤ} → Character c → Character d → Right [] (c ∷ d ∷ [])
  extended-alone : {a b : ℤ} → Character a → Character b → Right (a ∷ b ∷ []) []
  both_given : {a b c d : ℤ} → Character a → Character b → Character c → Character d → Right (a ∷ b ∷ []) (c ∷ d ∷ [])

-- the pairs that pass the test are such
pub right : (extended ordinary : List ℤ) → pairs_right extended ordinary ≡ true → Right extended ordinary
right extended ordinary e =
    let p = pair_right extended in
    let q = pair_right ordinary in
    let s = ltb 0 (length extended + length ordinary) in
    let t = subst⁻¹ T e tt in
    let u = second p (q && s) t in
    go extended ordinary (holds p (first p (q && s) t)) (holds q (first q s u)) (second q s u)
  where
    go : (es os : List ℤ) → pair_right es ≡ true → pair_right os ≡ true → T (ltb 0 (length es + length os)) → Right es os
    go [] [] p q s = absurd s
    go [] (c ∷ []) p q s = absurd (subst⁻¹ T q tt)
    go [] (c ∷ d ∷ []) p q s = let w = characters c d q in ordinary-alone w.0 w.1
    go [] (c ∷ d ∷ z ∷ zs) p q s = too_many c d z zs q
    go (a ∷ []) os p q s = absurd (subst⁻¹ T p tt)
    go (a ∷ b ∷ []) [] p q s = let v = characters a b p in extended-alone v.0 v.1
    go (a ∷ b ∷ []) (c ∷ []) p q s = absurd (subst⁻¹ T q tt)
    go (a ∷ b ∷ []) (c ∷ d ∷ []) p q s =
        let v = characters a b p in
        let w = characters c d q in
        both_given v.0 v.1 w.0 w.1
    go (a ∷ b ∷ []) (c ∷ d ∷ z ∷ zs) p q s = too_many c d z zs q
    go (a ∷ b ∷ z ∷ zs) os p q s = too_many a b z zs p
