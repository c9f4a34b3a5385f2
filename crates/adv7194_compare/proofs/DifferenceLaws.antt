-- Raw codes compared register by register, and numbers that pass a test gathered in a map. Assumes nothing.
use mathlib.Core.Path.{◌≡◌, refl, sym, ap, ap₂, ◌∙◌}
use mathlib.Core.Bool.{Bool, true, false, not, cond, ◌||◌}
use mathlib.Core.List.{List, ◌∷◌}
use Prim.Native.Nat.{ℕ, zero, suc, ◌+◌, ◌-◌, ◌*◌, ◌%◌, ◌^◌, ◌≤◌, ◌<◌}
use native.Mathlib.Nat.{pow-suc, pow-le-pow_right}
use native.Mathlib.Numerals.{add-one}
use native.Mathlib.Omega.{arith}
use lib.Bits.{bit_and, and_zero_r}
use lib.Pow.{pow_pos}
use lib.Dec.{eqb}
use lib.ListN.{get_or}
use borrow.Author.Tests.{eqb-true, eq-eqb, ne_eqb}
use Rattle.std.specs.List.{list_any, range_with_len}
use Rattle.std.proofs.lemmas.Bool.{eqb-false}
use Rattle.bits.specs.Bytes.{same_bytes}
use Rattle.bits.proofs.DigitLaws.{one_shl}
use Rattle.adv7194_bus.specs.Kind.{register_count, read_only}
use Rattle.adv7194_table.specs.Masks.{own_mask, each}
use Rattle.adv7194_table.specs.RawCodes.{own_bits, outside_bits, raw_from}
use Rattle.adv7194_table.proofs.TableLaws.{order_is}
use Rattle.adv7194_compare.specs.Differences.{those, field_differs, fields_differing, register_differs, registers_differing, map_of}

-- ---- raw codes

-- no bits are the same of any two bytes
pub masked : (x y : ℕ) {m : ℕ} → m ≡ 0 → bit_and x m ≡ bit_and y m
masked x y e = ap (bit_and x) e ∙ and_zero_r x ∙ sym (ap (bit_and y) e ∙ and_zero_r y)

module _ (a b : List ℕ) (n : ℕ) where
  -- those from register r on, of which there are k, are the same
  abbrev pub same_from : ℕ → ℕ → Bool
  same_from r k = same_bytes (raw_from a n r k) (raw_from b n r k)

  pub same_none : (r : ℕ) → same_from r 0 ≡ true
  unfolding raw_from same_bytes
  same_none r = refl

  -- with the first register's bits the same, the others decide
  pub same_next : (r k : ℕ) → own_bits a n r ≡ own_bits b n r → same_from r (suc k) ≡ same_from (suc r) k
  unfolding raw_from same_bytes
  same_next r k e = split (eqb (own_mask n r) 0)
    where
      split : (t : Bool) → same_bytes (cond t (raw_from a n (suc r) k) (own_bits a n r ∷ raw_from a n (suc r) k))
          (cond t (raw_from b n (suc r) k) (own_bits b n r ∷ raw_from b n (suc r) k)) ≡ same_from (suc r) k
      split true = refl
      split false = let g : eqb (own_bits a n r) (own_bits b n r) ≡ true = eq-eqb _ _ e in rw g

  -- with them different, the codes are
  pub other_here : (r k : ℕ) → (own_bits a n r ≡ own_bits b n r → ⊥) → same_from r (suc k) ≡ false
  unfolding raw_from same_bytes
  other_here r k h = split (eqb (own_mask n r) 0) refl
    where
      split : (t : Bool) → eqb (own_mask n r) 0 ≡ t → same_bytes (cond t (raw_from a n (suc r) k) (own_bits a n r ∷ raw_from a n (suc r) k))
          (cond t (raw_from b n (suc r) k) (own_bits b n r ∷ raw_from b n (suc r) k)) ≡ false
      split true e = absurd (h (masked (get_or a r 0) (get_or b r 0) (eqb-true _ _ e)))
      split false e = let g : eqb (own_bits a n r) (own_bits b n r) ≡ false = ne_eqb _ _ h in rw g

  -- some register's bits are not the same, of those from r on, of which there are k
  pub some_differ : (r k : ℕ) → list_any (λ q. not (eqb (own_bits a n q) (own_bits b n q))) (range_with_len r k) ≡ not (same_from r k)
  unfolding raw_from same_bytes
  some_differ r zero = refl
  some_differ r (suc k) = split (some_differ (r + 1) k) (eqb (own_bits a n r) (own_bits b n r)) refl
    where
      tests : Bool
      tests = list_any (λ q. not (eqb (own_bits a n q) (own_bits b n q))) (range_with_len (r + 1) k)

      split : tests ≡ not (same_from (r + 1) k) → (t : Bool) → eqb (own_bits a n r) (own_bits b n r) ≡ t → (not t || tests) ≡ not (same_from r (suc k))
      split h true e = h ∙ ap (λ (q : ℕ). not (same_from q k)) (add-one r) ∙ ap not (sym (same_next r k (eqb-true _ _ e)))
      split h false e = ap not (sym (other_here r k (eqb-false _ _ e)))

-- ---- maps

-- the map of those of k numbers from n on that pass a test
abbrev pub map_from : (ℕ → Bool) → ℕ → ℕ → ℕ
map_from P n k = map_of (those P (each (λ r. r) n k))

bit-small : (t : Bool) (m : ℕ) → cond t m 0 ≤ m
bit-small true m = omega arith
bit-small false m = omega arith

-- a bit as the code makes it, where a test that was found holds, and where it doesn't
bit_in : {t p : Bool} (n w : ℕ) → t ≡ p → t ≡ true → n < w → (1 * 2 ^ n) % 2 ^ w ≡ cond p (2 ^ n) 0
bit_in {t} {p} n w e h k = let g : p ≡ true = sym e ∙ h in rw g (one_shl n w k)

bit_out : {t p : Bool} (m : ℕ) → t ≡ p → t ≡ false → cond p m 0 ≡ 0
bit_out {t} {p} m e h = let g : p ≡ false = sym e ∙ h in rw g

module _ (P : ℕ → Bool) where
  -- the first one's bit, and the others'
  pub map_next : (n k : ℕ) → map_from P n (suc k) ≡ cond (P n) (2 ^ n) 0 + map_from P (suc n) k
  unfolding map_of those
  map_next n k = split (P n)
    where
      split : (t : Bool)
          → map_of (cond t (n ∷ those P (each (λ r. r) (suc n) k)) (those P (each (λ r. r) (suc n) k))) ≡ cond t (2 ^ n) 0 + map_from P (suc n) k
      split true = refl
      split false = omega arith

  pub map-none : (n : ℕ) → map_from P n 0 ≡ 0
  unfolding map_of those
  map-none n = refl

  -- it is below the first power past them
  map-small : (n k : ℕ) → map_from P n k + 2 ^ n ≤ 2 ^ (n + k)
  map-small n zero = let e : 2 ^ (n + 0) ≡ 2 ^ n = ap (λ (x : ℕ). 2 ^ x) (omega arith) in omega (arith, map-none n)
  map-small n (suc k) =
      let e : 2 ^ (n + suc k) ≡ 2 ^ (suc n + k) = ap (λ (x : ℕ). 2 ^ x) (omega arith) in
      omega (arith, e, map_next n k, map-small (suc n) k, pow-suc 2 n, bit-small (P n) (2 ^ n))

  -- the same for a loop's turn, with the numbers below an end
  map_turn : (n end : ℕ) → n < end → map_from P n (end - n) ≡ cond (P n) (2 ^ n) 0 + map_from P (n + 1) (end - (n + 1))
  map_turn n end h =
      let k : end - n ≡ suc (end - (n + 1)) = omega arith in
      ap (map_from P n) k ∙ map_next n (end - (n + 1)) ∙ ap (λ (x : ℕ). cond (P n) (2 ^ n) 0 + map_from P x (end - (n + 1))) (sym (add-one n))

  map-end : (n end : ℕ) → end ≤ n → map_from P n (end - n) ≡ 0
  map-end n end h = let k : end - n ≡ 0 = omega arith in ap (map_from P n) k ∙ map-none n

-- a loop's map so far, and what the numbers that are left add, are the map of all from the first to an end
pub record Gathering (P : ℕ → Bool) (first end map n : ℕ) : Type 0 where
  pub from : first ≤ n
  pub inside : n ≤ end
  pub sum : map + map_from P n (end - n) ≡ map_from P first (end - first)

pub gathering_begins : (P : ℕ → Bool) (first end : ℕ) → first ≤ end → Gathering P first end 0 first
gathering_begins P first end h = record { from = omega arith; inside = h; sum = omega arith }

module _ {P : ℕ → Bool} {first end map n : ℕ} (g : Gathering P first end map n) where
  -- at a turn, by the test that was found, the bit is in a map that it fits, or it isn't
  module _ {t : Bool} (h : n < end) (e : t ≡ P n) where
    pub bit-fits : (w : ℕ) → end ≤ w → t ≡ true → map + (1 * 2 ^ n) % 2 ^ w < 2 ^ w
    bit-fits w k q =
        let top : 2 ^ (first + (end - first)) ≤ 2 ^ w = pow-le-pow_right (omega arith) (omega (arith, g.from)) in
        omega (
          arith,
          g.sum,
          g.from,
          map_turn P n end h,
          map-small P first (end - first),
          pow_pos first,
          bit_in n w e q (omega arith),
        )

    pub with-bit : (w : ℕ) → end ≤ w → t ≡ true → {m : ℕ} → m ≡ map + (1 * 2 ^ n) % 2 ^ w → Gathering P first end m (n + 1)
    with-bit w k q p =
        record { from = omega (arith, g.from); inside = omega arith; sum = omega (arith, p, g.sum, map_turn P n end h, bit_in n w e q (omega arith)) }

    pub without-bit : t ≡ false → {m : ℕ} → m ≡ map → Gathering P first end m (n + 1)
    without-bit q p =
        record { from = omega (arith, g.from); inside = omega arith; sum = omega (arith, p, g.sum, map_turn P n end h, bit_out (2 ^ n) e q) }

  -- at the end it is the map of all
  pub all_gathered : end ≤ n → map ≡ map_from P first (end - first)
  all_gathered h = omega (arith, g.sum, map-end P n end h)

-- the differences as such maps
pub fields_map : (a b : List ℕ) → map_of (fields_differing a b) ≡ map_from (field_differs a b) 1 28
unfolding fields_differing
fields_map a b = ap (λ (l : List ℕ). map_of (those (field_differs a b) l)) order_is

pub registers-map : (a b : List ℕ) → map_of (registers_differing a b) ≡ map_from (register_differs a b) 0 register_count
unfolding registers_differing
registers-map a b = refl

-- ---- one register

pub never_read_only : (a b : List ℕ) {r : ℕ} → r ≡ read_only → false ≡ register_differs a b r
never_read_only a b {r} e = let g : eqb r read_only ≡ true = eq-eqb _ _ e in rw g

pub by_outside : (a b : List ℕ) {r x y : ℕ} → (r ≡ read_only → ⊥) → x ≡ outside_bits a r → y ≡ outside_bits b r → not (eqb x y) ≡ register_differs a b r
by_outside a b {r} {x} {y} h e f =
    let g : eqb r read_only ≡ false = ne_eqb _ _ h in
    ap₂ (λ (m n : ℕ). not (eqb m n)) e f ∙ rw g
