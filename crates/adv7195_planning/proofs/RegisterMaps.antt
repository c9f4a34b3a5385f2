-- Maps of registers against tests on registers: those that differ, and those left beside the transaction that ends with 3E. Assumes nothing.
use mathlib.Core.Path.{◌≡◌, refl, sym, ap, ap₂, ◌∙◌}
use mathlib.Core.Bool.{Bool, true, false, not, ◌&&◌, ◌||◌, and-false}
use mathlib.Core.List.{List}
use Prim.Native.Nat.{ℕ, ◌-◌, ◌^◌, ◌≤◌, ◌<◌}
use native.Mathlib.Omega.{arith}
use lib.Bits.{bit_and, bit_or}
use lib.Dec.{T, ltb, eqb, lit<}
use lib.ListN.{length, get_or, replicate, get_or-replicate, get_or-eq_default}
use borrow.Author.Tests.{ltb-true, ltb-false, ne_eqb}
use Rattle.bits.specs.Maps.{has}
use Rattle.bits.proofs.Checks.{agrees, same_bool, below, at-below, map_is}
use Rattle.bits.proofs.SetLaws.{has_and, has_or, has-past}
use Rattle.bus.specs.Registers.{differs, among}
use Rattle.planning.specs.Registers.{differs_in}
use Rattle.adv7195_bus.specs.Kind.{register_count}
use Rattle.adv7195_bus.specs.Order.{mode_register3, mode_register6}
use Rattle.adv7195_least.specs.Reaching.{Change}
use Rattle.adv7195_least.specs.Plan.{beside}
use Rattle.adv7195_planning.specs.Told.{Told}

-- ---- the registers that differ

-- where every register has a bit in its mask, those compared are those that differ
pub all-compared : (image wanted : List ℕ) → Change image wanted → (i : ℕ) → differs_in (replicate register_count 0xff) image wanted i ≡ differs image wanted i
all-compared image wanted χ i = split (ltb i register_count) refl
  where
    split : (b : Bool) → ltb i register_count ≡ b → differs_in (replicate register_count 0xff) image wanted i ≡ differs image wanted i
    split true e = rw (get_or-replicate {A = ℕ} register_count i 0xff 0 (ltb-true i register_count e))
    split false e =
        let h = ltb-false i register_count e in
        let none : (l : List ℕ) → length l ≡ register_count → get_or l i 0 ≡ 0 = λ l n. get_or-eq_default l 0 (omega arith) in
        rw (none image χ.found, none wanted χ.wants) (and-false (not (eqb (get_or (replicate register_count 0xff) i 0) 0)))

-- ---- those left beside a to 09

-- 03, and 09 where it has to be written once more
abbrev pub fixed : Bool → ℕ → Bool
fixed restored i = eqb i mode_register3 || (eqb i mode_register6 && restored)

no_fixed : (restored : Bool) (i : ℕ) → 64 ≤ i → fixed restored i ≡ false
no_fixed restored i h = rw (ne_eqb i mode_register3 (omega arith), ne_eqb i mode_register6 (omega arith))

pub both_fixed : (i : ℕ) → has 0x208 i ≡ fixed true i
unfolding below agrees
both_fixed = map_is 0x208 (fixed true) (lit< tt) tt (no_fixed true)

pub one-fixed : (i : ℕ) → has 0x08 i ≡ fixed false i
unfolding below agrees
one-fixed = map_is 0x08 (fixed false) (lit< tt) tt (no_fixed false)

-- the registers but a to 09
abbrev pub mask : ℕ → ℕ
mask a = bit_or (2 ^ a - 1) 0xfffffffffffffc00

abbrev mask_test : ℕ → ℕ → Bool
mask_test a i = agrees (has (mask a) i) (not (among a mode_register6 i))

mask_tested : T (below 10 (λ a. below 64 (mask_test a)))
unfolding below agrees
mask_tested = tt

mask_is : (a i : ℕ) → a ≤ mode_register6 → i < 64 → has (mask a) i ≡ not (among a mode_register6 i)
mask_is a i g h =
    same_bool (has (mask a) i) (not (among a mode_register6 i))
    (at-below 64 (mask_test a) (at-below 10 (λ x. below 64 (mask_test x)) mask_tested a (omega arith)) i h)

module _ (image wanted : List ℕ) (d : ℕ) (small : d < 2 ^ 64) (a : ℕ) (high : a ≤ mode_register6) where
  -- by the map of what is written besides
  pub beside-is : (restored : Bool) (m : ℕ) → ((i : ℕ) → has m i ≡ fixed restored i) → Told image wanted d restored
      → (i : ℕ) → has (bit_or (bit_and d (mask a)) m) i ≡ beside image wanted a i
  unfolding beside
  beside-is restored m f told i =
      has_or (bit_and d (mask a)) m i
      ∙ ap₂ (λ (x y : Bool). x || y) (has_and d (mask a) i ∙ part (ltb i 64) refl) (f i ∙ ap (λ (b : Bool). fixed b i) told.back)
    where
      part : (b : Bool) → ltb i 64 ≡ b → (has d i && has (mask a) i) ≡ (differs image wanted i && not (among a mode_register6 i))
      part true e = ap₂ (λ (x y : Bool). x && y) (told.differ i) (mask_is a i high (ltb-true i 64 e))
      part false e =
          let none = has-past 64 d i small (ltb-false i 64 e) in
          rw (none, sym (told.differ i) ∙ none)
