-- The registers that have a bit in the table of field masks, compared half by half, are all where two images differ. Assumes nothing.
use mathlib.Core.Path.{◌≡◌, refl, sym, ap, ap₂, ◌∙◌, subst}
use mathlib.Core.Bool.{Bool, true, false, not, ◌&&◌, ◌||◌, and-false}
use mathlib.Core.List.{List}
use Prim.Native.Nat.{ℕ, ◌+◌, ◌-◌, ◌*◌, ◌%◌, ◌^◌, ◌≤◌, ◌<◌}
use native.Mathlib.Nat.{mod-lt}
use native.Mathlib.Omega.{arith}
use lib.Bits.{bit_or}
use lib.Dec.{T, eqb, leb, ltb}
use lib.ListN.{length, get_or, take, drop, length-drop, get_or-eq_default}
use lib.Seq.{length-take-le, get_or-take, get_or-drop}
use borrow.Author.Tests.{leb-true, leb-false, ltb-true, ltb-false}
use Rattle.rounding.proofs.Range.{below, below_at, imp, imp→, T→true}
use Rattle.bits.specs.Maps.{has}
use Rattle.bits.proofs.SetLaws.{has_or}
use Rattle.bus.specs.Registers.{differs}
use Rattle.planning.specs.Registers.{differs_in}
use Rattle.planning.proofs.ShiftLaws.{has-past, has_shl, has-below}
use Rattle.adv7194_bus.specs.Kind.{register_count}
use Rattle.adv7194_table.specs.Fields.{timing, output, picture, dnr}
use Rattle.adv7194_table.specs.Table.{table}
use Rattle.adv7194_table.specs.Masks.{mask_where, field_mask, zero_mask, field_masks}
use Rattle.adv7194_least.specs.Change.{settable}
use Rattle.adv7194_planning.specs.Aims.{Comparable}

-- ---- one part

-- the part of an image from a start to before an end
abbrev part : ℕ → ℕ → List ℕ → List ℕ
part start end l = take (end - start) (drop start l)

-- whether register r is in it
abbrev in_part : ℕ → ℕ → ℕ → Bool
in_part start end r = leb start r && ltb r end

module _ (masks : List ℕ) {image wanted : List ℕ} (χ : Comparable image wanted) (start end : ℕ) (ordered : start ≤ end) (ends : end ≤ register_count) where
  sized : (l : List ℕ) → length l ≡ register_count → length (part start end l) ≡ end - start
  sized l e = length-take-le (end - start) (drop start l) (omega (arith, length-drop start l))

  -- m is the map of the registers of a part that have a bit and where two images differ, the part's first register the lowest
  module _ (m : ℕ) (compared : (j : ℕ) → has m j ≡ differs_in (part start end masks) (part start end image) (part start end wanted) j) where
    within : (j : ℕ) → j < end - start → has m j ≡ differs_in masks image wanted (start + j)
    within j h =
        let at : (l : List ℕ) → get_or (part start end l) j 0 ≡ get_or l (start + j) 0 =
        λ l. get_or-take (end - start) (drop start l) j 0 h ∙ get_or-drop start l j 0 in
        compared j ∙ rw (at masks, at image, at wanted)

    past : (j : ℕ) → end - start ≤ j → has m j ≡ false
    past j h =
        let none : (l : List ℕ) → length l ≡ end - start → get_or l j 0 ≡ 0 = λ l e. get_or-eq_default l 0 (omega arith) in
        compared j ∙ rw (none (part start end image) (sized image χ.found), none (part start end wanted) (sized wanted χ.wants))
        (and-false (not (eqb (get_or (part start end masks) j 0) 0)))

    -- the map, moved up to its place
    abbrev up : ℕ
    up = (m * 2 ^ start) % 2 ^ 64

    -- it has the registers of the part that differ
    pub moved : (i : ℕ) → has up i ≡ (in_part start end i && differs_in masks image wanted i)
    moved i = split (leb start i) refl (ltb i end) refl
      where
        back : start ≤ i → i < 64 → has up i ≡ has m (i - start)
        back l h =
            let e : start + (i - start) ≡ i = omega arith in
            ap (has up) (sym e) ∙ has_shl 64 m start (i - start) (omega arith)

        beyond : (b : Bool) → ltb i 64 ≡ b → start ≤ i → end ≤ i → has up i ≡ false
        beyond true e l h = back l (ltb-true i 64 e) ∙ past (i - start) (omega arith)
        beyond false e l h = has-past 64 up i (mod-lt (m * 2 ^ start) (omega arith)) (ltb-false i 64 e)

        split : (a : Bool) → leb start i ≡ a → (b : Bool) → ltb i end ≡ b → has up i ≡ ((a && b) && differs_in masks image wanted i)
        split true p true q =
            let l = leb-true start i p in
            let h = ltb-true i end q in
            let e : start + (i - start) ≡ i = omega arith in
            back l (omega arith) ∙ within (i - start) (omega arith) ∙ ap (differs_in masks image wanted) e
        split true p false q = beyond (ltb i 64) refl (leb-true start i p) (ltb-false i end q)
        split false p b q = has-below 64 m start i (leb-false start i p) (omega arith)

-- ---- both halves

-- whether register r is in one of them
abbrev in_half : ℕ → Bool
in_half r = in_part 0 0x1b r || in_part 0x1b register_count r

-- whether it has a bit in the table
abbrev has_field : ℕ → Bool
has_field r = not (eqb (get_or field_masks r 0) 0)

-- every register that can be set is in one of them and has a bit
abbrev compared_test : ℕ → Bool
compared_test r = imp (settable r) (in_half r && has_field r)

settable-compared : T (below compared_test register_count)
unfolding settable field_masks field_mask zero_mask mask_where table timing output picture dnr
settable-compared = tt

-- what is true only where a bit is and in a half is true in one of them
some_half : (a b m d : Bool) → (d ≡ true → ((a || b) && m) ≡ true) → ((a && (m && d)) || (b && (m && d))) ≡ d
some_half true b true d f = by b d
  where
    by : (b d : Bool) → (d || (b && d)) ≡ d
    by b true = refl
    by b false = and-false b
some_half true b false true f = absurd (subst T (sym (f refl)) tt)
some_half true b false false f = and-false b
some_half false true m d f = by m d f
  where
    by : (m d : Bool) → (d ≡ true → m ≡ true) → (m && d) ≡ d
    by true d f = refl
    by false true f = f refl
    by false false f = refl
some_half false false m true f = f refl
some_half false false m false f = refl

module _ (image wanted : List ℕ) (χ : Comparable image wanted) where
  -- so is every register that differs
  differs-compared : (i : ℕ) → differs image wanted i ≡ true → (in_half i && has_field i) ≡ true
  differs-compared i d =
      let q = χ.settable_only i d in
      T→true (in_half i && has_field i)
      (imp→ (settable i) (in_half i && has_field i) (below_at compared_test register_count settable-compared i q.0) q.1)

  -- the two maps in one
  pub both_halves : (low high : ℕ) → low < 2 ^ 64
      → ((j : ℕ) → has low j ≡ differs_in (part 0 0x1b field_masks) (part 0 0x1b image) (part 0 0x1b wanted) j)
      → ((j : ℕ) → has high j ≡ differs_in (part 0x1b register_count field_masks) (part 0x1b register_count image) (part 0x1b register_count wanted) j)
      → (i : ℕ) → has (bit_or low ((high * 2 ^ 0x1b) % 2 ^ 64)) i ≡ differs image wanted i
  both_halves low high small l h i =
      let e : low ≡ (low * 2 ^ 0) % 2 ^ 64 = omega arith in
      has_or low ((high * 2 ^ 0x1b) % 2 ^ 64) i
      ∙ ap₂ (λ (x y : Bool). x || y)
      (ap (λ (x : ℕ). has x i) e ∙ moved field_masks χ 0 0x1b (omega arith) (omega arith) low l i)
      (moved field_masks χ 0x1b register_count (omega arith) (omega arith) high h i)
      ∙ some_half (in_part 0 0x1b i) (in_part 0x1b register_count i) (has_field i) (differs image wanted i) (differs-compared i)
