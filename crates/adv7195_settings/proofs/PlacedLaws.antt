-- A list whose first elements stay, of which some more are set, and the rest is written: it is those parts, one after the other. Assumes nothing.
use mathlib.Core.Path.{◌≡◌, ap, ◌∙◌, subst}
use mathlib.Core.List.{List, [], ◌∷◌, ◌++◌, append-nil}
use Prim.Native.Nat.{ℕ, suc, ◌+◌, ◌-◌, ◌≤◌}
use native.Mathlib.Omega.{arith}
use lib.IntN.{ℤ}
use lib.ListN.{length, set, take, drop, length-drop}
use lib.Seq.{length-take-le}
use borrow.Rule.Slice.PartMut.{put_mid}
use Rattle.std.proofs.lemmas.List.{take_all, drop_all}
use Rattle.adv7195_settings.specs.Numbers.{number_count, part_count, part_of, cgms_data, parts_of, joined, cgms_part, numbers_of}

-- one is set
pub one_placed : {X : Type 0} (xs ys zs : List X) (x : X) (n : ℕ) → 1 ≤ length ys → length ys ≤ n + 1
    → put_mid (suc (length xs)) n (set (xs ++ ys) (length xs) x) zs ≡ xs ++ (x ∷ zs)
one_placed [] [] zs x n s h = absurd (omega arith)
one_placed {X} [] (y ∷ ys) zs x n s h = ap (λ (l : List X). x ∷ (zs ++ l)) (drop_all n ys (omega arith)) ∙ ap (λ (l : List X). x ∷ l) (append-nil zs)
one_placed {X} (a ∷ xs) ys zs x n s h = ap (λ (l : List X). a ∷ l) (one_placed xs ys zs x n s h)

-- three are
pub three_placed : {X : Type 0} (xs ys zs : List X) (x y z : X) (n : ℕ) → 3 ≤ length ys → length ys ≤ n + 3
    → put_mid (suc (suc (suc (length xs)))) n (set (set (set (xs ++ ys) (length xs) x) (suc (length xs)) y) (suc (suc (length xs))) z) zs
    ≡ xs ++ (x ∷ y ∷ z ∷ zs)
three_placed [] [] zs x y z n s h = absurd (omega arith)
three_placed [] (a ∷ []) zs x y z n s h = absurd (omega arith)
three_placed [] (a ∷ b ∷ []) zs x y z n s h = absurd (omega arith)
three_placed {X} [] (a ∷ b ∷ c ∷ ys) zs x y z n s h =
    ap (λ (l : List X). x ∷ y ∷ z ∷ (zs ++ l)) (drop_all n ys (omega arith)) ∙ ap (λ (l : List X). x ∷ y ∷ z ∷ l) (append-nil zs)
three_placed {X} (a ∷ xs) ys zs x y z n s h = ap (λ (l : List X). a ∷ l) (three_placed xs ys zs x y z n s h)

-- the last of a list, as a part of it from an index on
last_part : (l : List ℤ) (k : ℕ) → k ≤ length l → take (length l - k) (drop k l) ≡ drop k l
last_part l k h = take_all (length l - k) (drop k l) (omega (arith, length-drop k l))

-- the table's numbers of settings, from their parts
pub parts_placed : (zs front rest last : List ℤ) (x y z : ℤ) → length zs ≡ number_count → length rest ≡ 26 → front ≡ take 34 zs
    → last ≡ take (length zs - 35) (drop 35 zs) → x ≡ part_of 0 8 (cgms_data zs) → y ≡ part_of 8 8 (cgms_data zs) → z ≡ part_of 16 4 (cgms_data zs)
    → put_mid 37 23 (set (set (set (front ++ rest) 34 x) 35 y) 36 z) last ≡ parts_of zs
unfolding parts_of
parts_placed zs front rest last x y z size more e f p q r =
    let long : length front ≡ 34 = ap length e ∙ length-take-le 34 zs (omega arith) in
    let all : last ≡ drop 35 zs = f ∙ last_part zs 35 (omega arith) in
    subst
    (λ (k : ℕ). put_mid (suc (suc (suc k))) 23 (set (set (set (front ++ rest) k x) (suc k) y) (suc (suc k)) z) last ≡ front ++ (x ∷ y ∷ z ∷ last)) long
    (three_placed front rest last x y z 23 (omega arith) (omega arith))
    ∙ rw (e, p, q, r, all)

-- the settings' numbers of the table's
pub numbers_placed : (ps front rest last : List ℤ) (x : ℤ) (n : ℕ) → length ps ≡ part_count → length rest ≡ 24 → front ≡ take 34 ps
    → last ≡ take (length ps - 37) (drop 37 ps) → x ≡ joined (cgms_part ps 0) (cgms_part ps 1) (cgms_part ps 2) → 23 ≤ n
    → put_mid 35 n (set (front ++ rest) 34 x) last ≡ numbers_of ps
unfolding numbers_of
numbers_placed ps front rest last x n size more e f p h =
    let long : length front ≡ 34 = ap length e ∙ length-take-le 34 ps (omega arith) in
    let all : last ≡ drop 37 ps = f ∙ last_part ps 37 (omega arith) in
    subst (λ (k : ℕ). put_mid (suc k) n (set (front ++ rest) k x) last ≡ front ++ (x ∷ last)) long
    (one_placed front rest last x n (omega arith) (omega arith))
    ∙ rw (e, p, all)
