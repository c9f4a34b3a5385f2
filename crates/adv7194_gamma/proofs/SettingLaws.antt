-- What a curve is coded as fits its registers: seven bytes; and the numbers of a curve that is read are coded as its bytes. Assumes nothing.
use mathlib.Core.Path.{◌≡◌, refl, sym, ap, ◌∙◌, subst}
use mathlib.Core.Bool.{Bool, true, false, ◌&&◌}
use mathlib.Core.List.{List, [], ◌∷◌, map}
use mathlib.Core.Logic.{◌⊎◌, inl, inr}
use Prim.Native.Nat.{ℕ, zero, suc, ◌-◌, ◌≤◌, ◌<◌}
use native.Mathlib.Omega.{arith}
use lib.Dec.{T}
use lib.IntN.{ℤ, pos, nat_abs}
use lib.ListN.{length, get_or, drop, length-drop}
use borrow.Author.Tests.{le-leb}
use Rattle.refusals.specs.Refusal.{accepted, refused}
use Rattle.rounding.proofs.First.{flag}
use Rattle.field_table.specs.Blocks.{is, between}
use Rattle.adv7194_gamma.specs.Curve.{places, bytes_of, curve_of, all_bytes, curve_codes, curve_numbers}
use Rattle.adv7194_gamma.proofs.Nearest.{byte_at, bounded}
use Rattle.adv7194_gamma.proofs.Answers.{q_inside}
use Rattle.adv7194_gamma.proofs.ByteLaws.{Byte, byte_in, bytes_set, bytes-set, bytes-refused}
use Rattle.adv7194_gamma.proofs.CodeLaws.{ratio_codes, byte-codes, no_codes}

-- seven bytes
pub record Seven (cs : List ℕ) : Type 0 where
  pub size : length cs ≡ 7
  pub small : (i : ℕ) → get_or cs i 0 < 256

-- ---- of a ratio

-- each byte of a curve
ratio_small : (p q : ℕ) → 0 < q → (ns : List ℕ) → ((i : ℕ) → get_or ns i 0 ≤ 240) → (i : ℕ) → get_or (map (byte_at p q) ns) i 0 < 256
ratio_small p q h [] low i = omega arith
ratio_small p q h (n ∷ ns) low zero = omega (arith, bounded (n - 16) p q (omega (arith, low 0)) h)
ratio_small p q h (n ∷ ns) low (suc i) = ratio_small p q h ns (λ j. low (suc j)) i

-- the places are none of them higher than 240
places-low : (i : ℕ) → get_or places i 0 ≤ 240
places-low zero = omega arith
places-low (suc zero) = omega arith
places-low (suc (suc zero)) = omega arith
places-low (suc (suc (suc zero))) = omega arith
places-low (suc (suc (suc (suc zero)))) = omega arith
places-low (suc (suc (suc (suc (suc zero))))) = omega arith
places-low (suc (suc (suc (suc (suc (suc zero)))))) = omega arith
places-low (suc (suc (suc (suc (suc (suc (suc i))))))) = omega arith

ratio_seven : (p q : ℤ) (cs : List ℕ) → curve_of p q ≡ accepted cs → Seven cs
unfolding curve_of bytes_of
ratio_seven p q cs e = go (flag (between 1 3 p && between 1 3 q))
  where
    go : (between 1 3 p && between 1 3 q ≡ true) ⊎ (between 1 3 p && between 1 3 q ≡ false) → Seven cs
    go (inl t) =
        let same : map (byte_at (nat_abs p) (nat_abs q)) places ≡ cs = let c : curve_of p q ≡ accepted (map (byte_at (nat_abs p) (nat_abs q)) places) = rw t in cc in
        subst Seven same (record { size = refl; small = ratio_small (nat_abs p) (nat_abs q) (q_inside p q t).low places places-low })
    go (inr f) =
        let c : curve_of p q ≡ refused 3 = rw f in
        let z : ◌≡◌ {A = ℕ} 0 1 = cc in
        absurd (omega arith)

-- ---- of bytes

length-map : (zs : List ℤ) → length (map nat_abs zs) ≡ length zs
length-map [] = refl
length-map (z ∷ zs) = ap suc (length-map zs)

map-small : (zs : List ℤ) → ((i : ℕ) → Byte (get_or zs i (pos 0))) → (i : ℕ) → get_or (map nat_abs zs) i 0 < 256
map-small [] b i = omega arith
map-small (z ∷ zs) b zero = omega (arith, (b 0).most)
map-small (z ∷ zs) b (suc i) = map-small zs (λ j. b (suc j)) i

bytes_seven : (zs : List ℤ) (cs : List ℕ) → length zs ≡ 7 → bytes_set zs ≡ accepted cs → Seven cs
bytes_seven zs cs h e = go (flag (all_bytes zs))
  where
    go : (all_bytes zs ≡ true) ⊎ (all_bytes zs ≡ false) → Seven cs
    go (inl t) =
        let c = bytes-set zs t in
        let same : map nat_abs zs ≡ cs = cc in
        subst Seven same (record { size = length-map zs ∙ h; small = map-small zs (byte_in zs (subst T (sym t) tt)) })
    go (inr f) =
        let c = bytes-refused zs f in
        let z : ◌≡◌ {A = ℕ} 0 1 = cc in
        absurd (omega arith)

-- ---- of ten numbers

pub curve_seven : (zs : List ℤ) (cs : List ℕ) → length zs ≡ 10 → curve_codes zs ≡ accepted cs → Seven cs
curve_seven zs cs h e = by (is 0 (get_or zs 0 (pos 0))) (is 1 (get_or zs 0 (pos 0))) refl refl
  where
    by : (x y : Bool) → is 0 (get_or zs 0 (pos 0)) ≡ x → is 1 (get_or zs 0 (pos 0)) ≡ y → Seven cs
    by true y p q = ratio_seven (get_or zs 1 (pos 0)) (get_or zs 2 (pos 0)) cs (sym (ratio_codes zs p) ∙ e)
    by false true p q =
        let seven : length (drop 3 zs) ≡ 7 = omega (arith, length-drop 3 zs) in
        bytes_seven (drop 3 zs) cs seven (sym (byte-codes zs p q) ∙ e)
    by false false p q =
        let c = no_codes zs p q in
        let z : ◌≡◌ {A = ℕ} 0 1 = cc in
        absurd (omega arith)

-- ---- the numbers of a curve that is read

read_bytes : (bytes : List ℕ) → ((i : ℕ) → get_or bytes i 0 < 256) → all_bytes (map pos bytes) ≡ true
read_bytes [] small = refl
read_bytes (b ∷ bs) small = rw (le-leb 0 b (omega arith), le-leb b 255 (omega (arith, small 0))) (read_bytes bs (λ i. small (suc i)))

read_same : (bytes : List ℕ) → map nat_abs (map pos bytes) ≡ bytes
read_same [] = refl
read_same (b ∷ bs) = ap (λ (l : List ℕ). b ∷ l) (read_same bs)

-- they are coded as its bytes
pub curve-back : (bytes : List ℕ) → ((i : ℕ) → get_or bytes i 0 < 256) → curve_codes (curve_numbers bytes) ≡ accepted bytes
curve-back bytes small =
    byte-codes (curve_numbers bytes) refl refl
    ∙ bytes-set (map pos bytes) (read_bytes bytes small)
    ∙ ap accepted (read_same bytes)

-- ---- the refusal of a curve

-- it is 3
pub curve-refused : (zs : List ℤ) (n : ℕ) → curve_codes zs ≡ refused n → n ≡ 3
unfolding curve_of
curve-refused zs n e = by (is 0 (get_or zs 0 (pos 0))) (is 1 (get_or zs 0 (pos 0))) refl refl
  where
    of_ratio : (p q : ℤ) → curve_of p q ≡ refused n → n ≡ 3
    of_ratio p q e = go (flag (between 1 3 p && between 1 3 q))
      where
        go : (between 1 3 p && between 1 3 q ≡ true) ⊎ (between 1 3 p && between 1 3 q ≡ false) → n ≡ 3
        go (inl t) =
            let c : curve_of p q ≡ accepted (bytes_of (nat_abs p) (nat_abs q)) = rw t in
            let z : ◌≡◌ {A = ℕ} 0 1 = cc in
            absurd (omega arith)
        go (inr f) = let c : curve_of p q ≡ refused 3 = rw f in cc

    of_bytes : (ys : List ℤ) → bytes_set ys ≡ refused n → n ≡ 3
    of_bytes ys e = go (flag (all_bytes ys))
      where
        go : (all_bytes ys ≡ true) ⊎ (all_bytes ys ≡ false) → n ≡ 3
        go (inl t) =
            let z : ◌≡◌ {A = ℕ} 0 1 = cc (bytes-set ys t) in
            absurd (omega arith)
        go (inr f) = cc (bytes-refused ys f)

    by : (x y : Bool) → is 0 (get_or zs 0 (pos 0)) ≡ x → is 1 (get_or zs 0 (pos 0)) ≡ y → n ≡ 3
    by true y p q = of_ratio (get_or zs 1 (pos 0)) (get_or zs 2 (pos 0)) (sym (ratio_codes zs p) ∙ e)
    by false true p q = of_bytes (drop 3 zs) (sym (byte-codes zs p q) ∙ e)
    by false false p q = cc (no_codes zs p q)
