-- Equal images, register 34 excepted, have no differences, and only they do: every bit of any other register is some field's or outside all fields.
-- Assumes nothing.
use mathlib.Core.Path.{◌≡◌, refl, sym, ap, ap₂, ◌∙◌}
use mathlib.Core.Bool.{Bool, true, false, not, cond, ◌&&◌}
use mathlib.Core.List.{List, ◌∷◌}
use Prim.Native.Nat.{ℕ, zero, suc, ◌+◌, ◌^◌, ◌≤◌, ◌<◌}
use native.Mathlib.Omega.{arith}
use lib.Bits.{bit_and}
use lib.Dec.{T, eqb, eqb→eq}
use lib.ListN.{get_or}
use lib.Pow.{pow_pos}
use borrow.Author.Tests.{eqb-true, eqb-false, eq-eqb, ne_eqb, not-false}
use Rattle.bits.proofs.CoverLaws.{all_masks, SameUnder, same_number}
use Rattle.adv7194_bus.specs.Kind.{register_count, read_only}
use Rattle.bits.proofs.Checks.{below, at-below}
use Rattle.adv7194_table.specs.Fields.{timing, output, picture, dnr}
use Rattle.adv7194_table.specs.Table.{table}
use Rattle.adv7194_table.specs.Masks.{mask_where, own_mask, field_mask, zero_mask, outside_mask, each}
use Rattle.adv7194_table.specs.RawCodes.{own_bits, outside_bits}
use Rattle.adv7194_table.proofs.MaskLaws.{none_read_only}
use Rattle.adv7194_compare.specs.Differences.{field_differs, register_differs, Equal}
use Rattle.adv7194_compare.proofs.DifferenceLaws.{masked, same_from, same_none, same_next, other_here, map_from, map_next, map-none}

-- ---- every bit of a register is some field's, or outside all fields

-- the masks of a register: of the bits outside all fields, and of each field
abbrev masks_at : ℕ → List ℕ
masks_at r = outside_mask r ∷ each (λ n. own_mask n r) 1 28

-- all bits, at every register: the one test
covers-all : T (below register_count (λ r. eqb (all_masks (masks_at r)) 0xFF))
unfolding below all_masks outside_mask field_mask zero_mask own_mask mask_where table timing output picture dnr
covers-all = tt

covers : (r : ℕ) → r < register_count → all_masks (masks_at r) ≡ 0xFF
covers r h = eqb→eq (all_masks (masks_at r)) 0xFF (at-below register_count (λ r. eqb (all_masks (masks_at r)) 0xFF) covers-all r h)

module _ (a b : List ℕ) where
  -- the bytes of two images that have the same bits of some fields are the same under those fields' masks
  fields-same : (r k n : ℕ) → ((m : ℕ) → n ≤ m → m < n + k → own_bits a m r ≡ own_bits b m r)
      → SameUnder (get_or a r 0) (get_or b r 0) (each (λ m. own_mask m r) n k)
  fields-same r zero n own = tt
  fields-same r (suc k) n own = (own n (omega arith) (omega arith), fields-same r k (suc n) (λ m p q. own m (omega arith) (omega arith)))

  -- so a byte is the same
  byte-same : (r : ℕ) → r < register_count → get_or a r 0 < 2 ^ 8 → get_or b r 0 < 2 ^ 8 → ((m : ℕ) → 1 ≤ m → m < 29 → own_bits a m r ≡ own_bits b m r)
      → outside_bits a r ≡ outside_bits b r → get_or a r 0 ≡ get_or b r 0
  byte-same r h p q own out = same_number 8 (get_or a r 0) (get_or b r 0) (masks_at r) p q (covers r h) (out, fields-same r 28 1 own)

  -- ---- a field's raw codes, and its bits in every register

  raw_same : (n k r : ℕ) → ((i : ℕ) → r ≤ i → i < r + k → own_bits a n i ≡ own_bits b n i) → same_from a b n r k ≡ true
  raw_same n zero r h = same_none a b n r
  raw_same n (suc k) r h = same_next a b n r k (h r (omega arith) (omega arith)) ∙ raw_same n k (suc r) (λ i p q. h i (omega arith) (omega arith))

  first-same : (n k r : ℕ) → same_from a b n r (suc k) ≡ true → own_bits a n r ≡ own_bits b n r
  first-same n k r e = here (eqb (own_bits a n r) (own_bits b n r)) refl
    where
      here : (t : Bool) → eqb (own_bits a n r) (own_bits b n r) ≡ t → own_bits a n r ≡ own_bits b n r
      here true f = eqb-true _ _ f
      here false f =
          let g : same_from a b n r (suc k) ≡ false = other_here a b n r k (eqb-false _ _ f) in
          let z : ◌≡◌ {A = ℕ} 0 1 = cc in absurd (omega arith)

  own_same : (n k r : ℕ) → same_from a b n r k ≡ true → (i : ℕ) → r ≤ i → i < r + k → own_bits a n i ≡ own_bits b n i
  own_same n zero r e i p q = absurd (omega arith)
  own_same n (suc k) r e i p q =
      here (eqb i r) refl (own_same n k (suc r) (sym (same_next a b n r k (first-same n k r e)) ∙ e) i)
    where
      here : (t : Bool) → eqb i r ≡ t → (suc r ≤ i → i < suc r + k → own_bits a n i ≡ own_bits b n i) → own_bits a n i ≡ own_bits b n i
      here true f rest = let g = eqb-true i r f in rw g (first-same n k r e)
      here false f rest = let g = eqb-false i r f in rest (omega arith) (omega arith)

-- ---- tests that all fail

module _ (P : ℕ → Bool) where
  -- an empty map has none that pass
  pub none_pass : (n k : ℕ) → map_from P n k ≡ 0 → (i : ℕ) → n ≤ i → i < n + k → P i ≡ false
  none_pass n zero e i p q = absurd (omega arith)
  none_pass n (suc k) e i p q =
      let s = sym (map_next P n k) ∙ e in
      here (eqb i n) refl (none_pass (suc n) k (omega arith) i)
    where
      first_fails : (t : Bool) (m : ℕ) → cond t (2 ^ n) 0 + m ≡ 0 → t ≡ false
      first_fails true m h = absurd (omega (arith, pow_pos n))
      first_fails false m h = refl

      here : (t : Bool) → eqb i n ≡ t → (suc n ≤ i → i < suc n + k → P i ≡ false) → P i ≡ false
      here true f rest = let g = eqb-true i n f in rw g (first_fails (P n) (map_from P (suc n) k) (sym (map_next P n k) ∙ e))
      here false f rest = let g = eqb-false i n f in rest (omega arith) (omega arith)

  -- and none that pass have an empty map
  pub empty-map : (n k : ℕ) → ((i : ℕ) → n ≤ i → i < n + k → P i ≡ false) → map_from P n k ≡ 0
  empty-map n zero h = map-none P n
  empty-map n (suc k) h =
      map_next P n k ∙ ap₂ (λ (t : Bool) (m : ℕ). cond t (2 ^ n) 0 + m) (h n (omega arith) (omega arith)) (empty-map (suc n) k
      (λ i p q. h i (omega arith) (omega arith)))

-- ---- the theorem, by maps

module _ (a b : List ℕ) where
  -- images that are equal, register 34 excepted, have the same bits of every field
  equal_own : Equal a b → (n i : ℕ) → i < register_count → own_bits a n i ≡ own_bits b n i
  equal_own e n i h = here (eqb i read_only) refl
    where
      here : (t : Bool) → eqb i read_only ≡ t → own_bits a n i ≡ own_bits b n i
      here true f = masked (get_or a i 0) (get_or b i 0) (ap (own_mask n) (eqb-true i read_only f) ∙ none_read_only n)
      here false f = ap (λ (x : ℕ). bit_and x (own_mask n i)) (e.same i h (eqb-false i read_only f))

  pub equal_fields : Equal a b → map_from (field_differs a b) 1 28 ≡ 0
  equal_fields e = empty-map (field_differs a b) 1 28 (λ n p q. ap not (raw_same a b n register_count 0 (λ i r s. equal_own e n i s)))

  pub equal_registers : Equal a b → map_from (register_differs a b) 0 register_count ≡ 0
  equal_registers e = empty-map (register_differs a b) 0 register_count (λ r p q. here r q (eqb r read_only) refl)
    where
      here : (r : ℕ) → r < register_count → (t : Bool) → eqb r read_only ≡ t → (not t && not (eqb (outside_bits a r) (outside_bits b r))) ≡ false
      here r q true f = refl
      here r q false f =
          let g : eqb (outside_bits a r) (outside_bits b r) ≡ true =
          eq-eqb _ _ (ap (λ (x : ℕ). bit_and x (outside_mask r)) (e.same r q (eqb-false r read_only f))) in
          rw g

  -- and images with no differences have the same byte in every register but 34
  module _ (bytes : (r : ℕ) → (get_or a r 0 < 2 ^ 8) × (get_or b r 0 < 2 ^ 8)) (fields : map_from (field_differs a b) 1 28 ≡ 0)
      (registers : map_from (register_differs a b) 0 register_count ≡ 0) where
    same-outside : (r : ℕ) → r < register_count → (r ≡ read_only → ⊥) → outside_bits a r ≡ outside_bits b r
    same-outside r h k =
        let g : eqb r read_only ≡ false = ne_eqb _ _ k in
        let d : register_differs a b r ≡ false = none_pass (register_differs a b) 0 register_count registers r (omega arith) h in
        eqb-true _ _ (not-false _ (rw g at d))

    pub only_equal : (r : ℕ) → r < register_count → (r ≡ read_only → ⊥) → get_or a r 0 ≡ get_or b r 0
    only_equal r h k =
        byte-same a b r h (bytes r).0 (bytes r).1
        (λ m p q. own_same a b m register_count 0 (not-false _ (none_pass (field_differs a b) 1 28 fields m p q)) r (omega arith) h)
        (same-outside r h k)
