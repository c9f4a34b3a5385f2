-- The registers of a field as a map, and the lowest field that has one of some registers. Assumes nothing.
use mathlib.Core.Path.{◌≡◌, refl, sym, ap, ap₂, ◌∙◌, subst}
use mathlib.Core.Logic.{◌⊎◌, inl, inr, ⊎_elim}
use mathlib.Core.Bool.{Bool, true, false, not, cond, ◌&&◌, ◌||◌, and-false, or-true}
use mathlib.Core.List.{List, [], ◌∷◌}
use Prim.Native.Nat.{ℕ, zero, suc, ◌+◌, ◌%◌, ◌^◌, ◌≤◌, ◌<◌}
use native.Mathlib.Nat.{pow-suc, add-div_left, add-mod_left, div-eq_of_lt}
use native.Mathlib.Numerals.{add-one}
use native.Mathlib.Omega.{arith}
use lib.Bits.{bit_and, and_le_l}
use lib.Count.{count_trailing_zeros}
use lib.Dec.{T, eqb, eqb→eq}
use lib.Pow.{pow_pos}
use borrow.Author.Tests.{eqb-true, eqb-false, eq-eqb}
use Rattle.std.specs.Prelude.{Some, unwrap_or}
use Rattle.std.specs.List.{position_from}
use Rattle.bits.specs.Maps.{has}
use Rattle.bits.proofs.FlagLaws.{either}
use Rattle.bits.proofs.MapLaws.{least}
use Rattle.bits.proofs.SetLaws.{has_and, has_in, has-mod, has-past}
use Rattle.adv7194_bus.specs.Kind.{register_count}
use Rattle.bits.proofs.Checks.{below, at-below}
use Rattle.adv7194_table.specs.Fields.{timing, output, picture, dnr}
use Rattle.adv7194_table.specs.Table.{table, order_of}
use Rattle.adv7194_table.specs.Masks.{mask_where, own_mask, each}
use Rattle.adv7194_table.specs.Registers.{has_bits, some_below, field_among, lowest_in, lowest_field, field_count, registers_below, field_registers}
use Rattle.adv7194_table.proofs.TableLaws.{order_is}
use Rattle.adv7194_table.proofs.MaskLaws.{own_all}

-- ---- one of the numbers below n

-- two tests that agree below n
pub same-below : (P Q : ℕ → Bool) (n : ℕ) → ((r : ℕ) → r < n → P r ≡ Q r) → some_below P n ≡ some_below Q n
unfolding some_below
same-below P Q zero h = refl
same-below P Q (suc n) h = ap₂ ◌||◌ (h n (omega arith)) (same-below P Q n (λ r k. h r (omega arith)))

-- a test that fails below n
pub none_below : (P : ℕ → Bool) (n : ℕ) → ((r : ℕ) → r < n → P r ≡ false) → some_below P n ≡ false
unfolding some_below
none_below P zero h = refl
none_below P (suc n) h = ap₂ ◌||◌ (h n (omega arith)) (none_below P n (λ r k. h r (omega arith)))

-- a test that holds of one
pub one_below : (P : ℕ → Bool) (n r : ℕ) → r < n → P r ≡ true → some_below P n ≡ true
unfolding some_below
one_below P zero r h e = absurd (omega arith)
one_below P (suc n) r h e = split (eqb r n) refl (λ k. one_below P n r k e)
  where
    split : (b : Bool) → eqb r n ≡ b → (r < n → some_below P n ≡ true) → (P n || some_below P n) ≡ true
    split true d ih = let here : P n ≡ true = sym (ap P (eqb-true r n d)) ∙ e in rw here
    split false d ih = let z = eqb-false r n d in let there : some_below P n ≡ true = ih (omega arith) in rw there (or-true (P n))

-- a map of n registers has one of them exactly where it isn't 0
pub some_of_map : (n m : ℕ) → m < 2 ^ n → some_below (has m) n ≡ not (eqb m 0)
some_of_map n m h = split (eqb m 0) refl
  where
    split : (b : Bool) → eqb m 0 ≡ b → some_below (has m) n ≡ not b
    split true e = none_below (has m) n (λ r k. ap (λ (x : ℕ). has x r) (eqb-true m 0 e) ∙ has-past 0 0 r (omega arith) (omega arith))
    split false e =
        let z = eqb-false m 0 e in
        let l = least n m (omega arith) h in
        let first : has m (count_trailing_zeros n m) ≡ true = eq-eqb _ _ l.isset in
        one_below (has m) n (count_trailing_zeros n m) (has_in n m (count_trailing_zeros n m) h first) first

-- ---- a field's registers

-- a register more at the top of a map
module _ (n x : ℕ) (h : x < 2 ^ n) where
  at_top : (b : Bool) → has (cond b (2 ^ n) 0 + x) n ≡ b
  at_top true = ap (λ (q : ℕ). eqb (q % 2) 1) (add-div_left x (pow_pos n) ∙ ap (λ (q : ℕ). q + 1) (div-eq_of_lt h))
  at_top false = ap (λ (y : ℕ). has y n) (omega arith) ∙ has-past n x n h (omega arith)

  below_top : (b : Bool) (r : ℕ) → r < n → has (cond b (2 ^ n) 0 + x) r ≡ has x r
  below_top true r k = sym (has-mod n (2 ^ n + x) r k) ∙ ap (λ (y : ℕ). has y r) (add-mod_left (2 ^ n) x) ∙ has-mod n x r k
  below_top false r k = ap (λ (y : ℕ). has y r) (omega arith)

  small_top : (b : Bool) → cond b (2 ^ n) 0 + x < 2 ^ suc n
  small_top true = omega (arith, pow-suc 2 n)
  small_top false = omega (arith, pow-suc 2 n)

registers-small : (f n : ℕ) → registers_below f n < 2 ^ n
unfolding registers_below
registers-small f zero = omega arith
registers-small f (suc n) = small_top n (registers_below f n) (registers-small f n) (has_bits f n)

-- the map has the registers that the field has bits in
has-registers : (f n r : ℕ) → r < n → has (registers_below f n) r ≡ has_bits f r
unfolding registers_below
has-registers f zero r h = absurd (omega arith)
has-registers f (suc n) r h = split (eqb r n) refl (λ k. has-registers f n r k)
  where
    rest : ℕ
    rest = registers_below f n

    split : (b : Bool) → eqb r n ≡ b → (r < n → has rest r ≡ has_bits f r) → has (cond (has_bits f n) (2 ^ n) 0 + rest) r ≡ has_bits f r
    split true d ih =
        let e = eqb-true r n d in
        ap (has (cond (has_bits f n) (2 ^ n) 0 + rest)) e ∙ at_top n rest (registers-small f n) (has_bits f n) ∙ ap (has_bits f) (sym e)
    split false d ih =
        let z = eqb-false r n d in
        let l : r < n = omega arith in
        below_top n rest (registers-small f n) (has_bits f n) r l ∙ ih l

-- a field has a bit in one of a map's registers exactly where the two maps have one in common
pub among-map : (map f : ℕ) → field_among (has map) f ≡ not (eqb (bit_and (registers_below f register_count) map) 0)
unfolding field_among
among-map map f =
    same-below (λ r. has_bits f r && has map r) (has (bit_and own map)) register_count
    (λ r h. sym (has_and own map r ∙ ap (λ (b : Bool). b && has map r) (has-registers f register_count r h)))
    ∙ some_of_map register_count (bit_and own map) (omega (arith, and_le_l own map, registers-small f register_count))
  where
    own : ℕ
    own = registers_below f register_count

-- ---- the lowest field

-- the lowest of n fields from k on
abbrev pub lowest_from : (ℕ → Bool) → ℕ → ℕ → ℕ
lowest_from P k n = lowest_in P (each (λ f. f) k n)

module _ (P : ℕ → Bool) where
  pub lowest_fields : lowest_field P ≡ lowest_from P 1 28
  lowest_fields = ap (lowest_in P) order_is

  pub lowest_here : (f n : ℕ) → field_among P f ≡ true → lowest_from P f (suc n) ≡ f
  unfolding lowest_in
  lowest_here f n e = rw e

  pub lowest_next : (f n : ℕ) → field_among P f ≡ false → lowest_from P f (suc n) ≡ lowest_from P (suc f) n
  unfolding lowest_in
  lowest_next f n e = rw e

  -- it is one of them, or 0
  pub lowest_from_lem : (k n : ℕ) → (lowest_from P k n ≡ 0) ⊎ (k ≤ lowest_from P k n)
  unfolding lowest_in
  lowest_from_lem k zero = inl refl
  lowest_from_lem k (suc n) = split (field_among P k) (lowest_from_lem (suc k) n)
    where
      split : (b : Bool) → (lowest_from P (suc k) n ≡ 0) ⊎ (suc k ≤ lowest_from P (suc k) n)
          → (cond b k (lowest_from P (suc k) n) ≡ 0) ⊎ (k ≤ cond b k (lowest_from P (suc k) n))
      split true h = inr (omega arith)
      split false h = ⊎_elim (λ e. inl e) (λ l. inr (omega arith)) h

  -- where no field has such a register
  pub none_lowest : ((f : ℕ) → field_among P f ≡ false) → (fs : List ℕ) → lowest_in P fs ≡ 0
  unfolding lowest_in
  none_lowest h [] = refl
  none_lowest h (f ∷ fs) = let e : field_among P f ≡ false = h f in rw e (none_lowest h fs)

-- two tests that agree on the registers
pub same_lowest : (P Q : ℕ → Bool) → ((r : ℕ) → r < register_count → P r ≡ Q r) → lowest_field P ≡ lowest_field Q
unfolding lowest_in field_among
same_lowest P Q h = go (order_of table)
  where
    same : (f : ℕ) → field_among P f ≡ field_among Q f
    same f = same-below (λ r. has_bits f r && P r) (λ r. has_bits f r && Q r) register_count (λ r k. ap (λ (b : Bool). has_bits f r && b) (h r k))

    go : (fs : List ℕ) → lowest_in P fs ≡ lowest_in Q fs
    go [] = refl
    go (f ∷ fs) = ap₂ (λ (b : Bool) (n : ℕ). cond b f n) (same f) (go fs)

-- the first of some fields from k on that pass is the lowest of them
first_of : (P : ℕ → Bool) (map k n : ℕ) → ((f : ℕ) → field_among P f ≡ not (eqb (bit_and (registers_below f register_count) map) 0))
    → unwrap_or (position_from (λ m. not (eqb (bit_and m map) 0)) k (each (λ f. registers_below f register_count) k n)) 0 ≡ lowest_from P k n
unfolding lowest_in
first_of P map k zero h = refl
first_of P map k (suc n) h = by (not (eqb (bit_and (registers_below k register_count) map) 0)) (h k) (rw (add-one k) (first_of P map (suc k) n h))
  where
    rest : List ℕ
    rest = each (λ f. registers_below f register_count) (suc k) n

    by : (b : Bool) → field_among P k ≡ b
        → unwrap_or (position_from (λ m. not (eqb (bit_and m map) 0)) (k + 1) rest) 0 ≡ lowest_from P (suc k) n
        → unwrap_or (cond b (Some k) (position_from (λ m. not (eqb (bit_and m map) 0)) (k + 1) rest)) 0 ≡ lowest_from P k (suc n)
    by true e later = rw e
    by false e later = rw e later

-- field 0 has no register
none_first : (map : ℕ) → bit_and (registers_below 0 register_count) map ≡ 0
unfolding registers_below own_mask mask_where table timing output picture dnr
none_first map = omega (arith, and_le_l 0 map)

-- so the first of all fields that has a register of a map is the lowest
pub first_field : (map : ℕ) → unwrap_or (position_from (λ m. not (eqb (bit_and m map) 0)) 0 field_registers) 0 ≡ lowest_field (has map)
unfolding field_registers
first_field map =
    first_of (has map) map 0 field_count (among-map map)
    ∙ lowest_next (has map) 0 28 (among-map map 0 ∙ ap not (eq-eqb _ 0 (none_first map))) ∙ sym (lowest_fields (has map))

-- ---- the registers of all fields

abbrev pub all_fields : ℕ
all_fields = 0xF_FFFF_EE01_F027

-- every other register has no field's bits: the one test
others_free : T (below register_count (λ r. has all_fields r || eqb (mask_where (λ e. true) table r) 0))
unfolding below mask_where table timing output picture dnr
others_free = tt

outside-all : (f r : ℕ) → r < register_count → has all_fields r ≡ false → has_bits f r ≡ false
outside-all f r h e =
    let t = at-below register_count (λ r. has all_fields r || eqb (mask_where (λ e. true) table r) 0) others_free r h in
    let none : mask_where (λ e. true) table r ≡ 0 =
    ⊎_elim (λ a. absurd (subst T e a)) (λ b. eqb→eq _ 0 b) (either (has all_fields r) (eqb (mask_where (λ e. true) table r) 0) t) in
    ap not (eq-eqb (own_mask f r) 0 (omega (arith, own_all f r)))

-- a map with none of them has no field's
pub none_of_map : (map : ℕ) → bit_and map all_fields ≡ 0 → lowest_field (has map) ≡ 0
unfolding field_among
none_of_map map e =
    none_lowest (has map) (λ f. none_below (λ r. has_bits f r && has map r) register_count (λ r h. at f r h (has map r) refl)) (order_of table)
  where
    common : (r : ℕ) → (has map r && has all_fields r) ≡ false
    common r = sym (has_and map all_fields r) ∙ ap (λ (x : ℕ). has x r) e ∙ has-past 0 0 r (omega arith) (omega arith)

    at : (f r : ℕ) → r < register_count → (b : Bool) → has map r ≡ b → (has_bits f r && b) ≡ false
    at f r h true q = let free : has_bits f r ≡ false = outside-all f r h (sym (ap (λ (b : Bool). b && has all_fields r) q) ∙ common r) in rw free
    at f r h false q = and-false (has_bits f r)
