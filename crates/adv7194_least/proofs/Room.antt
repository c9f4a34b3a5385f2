-- Where no unknown register is fixed only in part, a packed plan has no more than 422 bits, 53 bytes, and from a limit of 23 on no more than 350 bits,
-- 44 bytes. Assumes nothing.
use mathlib.Core.Path.{◌≡◌, refl, sym, ◌∙◌}
use mathlib.Core.Logic.{◌⊎◌, inl, inr, ⊎_elim}
use mathlib.Core.Bool.{Bool, true, false, cond, not, ◌&&◌, false≢true}
use mathlib.Core.List.{List, [], ◌∷◌}
use Prim.Native.Nat.{ℕ, zero, suc, ◌+◌, ◌-◌, ◌≤◌, ◌<◌}
use native.Mathlib.Omega.{arith}
use lib.Dec.{T, leb, ltb, leb→le}
use lib.ListN.{length, replicate}
use borrow.Author.Tests.{ltb-true, ltb-false, not-true}
use Rattle.bits.proofs.FlagLaws.{first, second, holds, both_true}
use Rattle.rounding.proofs.First.{flag}
use Rattle.rounding.proofs.Range.{below, below_at, imp, imp→}
use Rattle.adv7194_table.specs.Fields.{timing, output, picture, dnr}
use Rattle.adv7194_table.specs.Table.{table}
use Rattle.adv7194_table.specs.Masks.{mask_where, field_mask, zero_mask}
use Rattle.bus.specs.Transactions.{Transaction, size, end, Touches, bus_bytes}
use Rattle.bus.specs.Cost.{data_count}
use Rattle.bus.proofs.CostLaws.{bytes_count}
use Rattle.bus.proofs.KnownLaws.{touched_by, touched_agree}
use Rattle.packing.specs.Packing.{packed}
use Rattle.packing.specs.Written.{packed_bits}
use Rattle.packing.proofs.PackedLaws.{packed_bits-length, packed-length}
use Rattle.adv7194_bus.specs.Kind.{register_count}
use Rattle.adv7194_bus.specs.Limit.{least_limit}
use Rattle.adv7194_bus.specs.Rules.{Rules, keeps_rules, all_keep_rules}
use Rattle.adv7194_bus.proofs.LimitLaws.{right-limit}
use Rattle.adv7194_bus.proofs.RuleLaws.{agree_all}
use Rattle.least_cost.specs.Order.{NoDearer, Ascending}
use Rattle.bus.proofs.After.{later}
use Rattle.adv7194_least.specs.Aim.{Aim, must, compared}
use Rattle.adv7194_least.specs.Change.{settable, Change, Told}
use Rattle.bus.specs.Registers.{among}
use Rattle.adv7194_least.specs.Plan.{plan_of}
use Rattle.adv7194_least.specs.Demands.{most_bits, most_bytes, wide_limit, wide_bits, wide_bytes}
use Rattle.bus.proofs.RegisterLaws.{among_true}
use Rattle.adv7194_least.proofs.Differing.{must-settable}
use Rattle.adv7194_least.proofs.Reached.{plan-inside}
use Rattle.adv7194_least.proofs.Bridges.{reachable, Reachable, plan_reachable}
use Rattle.adv7194_least.proofs.Costs.{touching_no_dearer, plan-ascending}
use Rattle.bits.specs.Lists.{Every}
use Rattle.adv7194_least.proofs.Parts.{Clear, Within}

-- the most data of a plan
abbrev most_data : ℕ
most_data = 38

-- the most bus bytes, with any limit and with a wide one
abbrev most_cost : ℕ
most_cost = 57

abbrev wide_cost : ℕ
wide_cost = 45

-- ---- the data are at most as many as the registers that can be touched

-- how many of the registers below n are of a kind
unfoldable count : (ℕ → Bool) → ℕ → ℕ
count f zero = 0
count f (suc n) = cond (f n) 1 0 + count f n

-- there are no fewer below a higher number
count_mono : (f : ℕ → Bool) (a b : ℕ) → a ≤ b → count f a ≤ count f b
unfolding count
count_mono f a zero h = let e : a ≡ 0 = omega arith in rw e (omega arith)
count_mono f a (suc b) h = split (ltb b a) refl (λ d. count_mono f a b d)
  where
    split : (t : Bool) → ltb b a ≡ t → (a ≤ b → count f a ≤ count f b) → count f a ≤ count f (suc b)
    split true t ih = let d = ltb-true b a t in let e : a ≡ suc b = omega arith in rw e (omega arith)
    split false t ih = omega (arith, ih (ltb-false b a t))

-- one more
count-suc : (f : ℕ → Bool) (n : ℕ) → f n ≡ true → count f (suc n) ≡ 1 + count f n
unfolding count
count-suc f n e = rw e

-- a span of them counts in full
count_span : (f : ℕ → Bool) (a m : ℕ) → ((x : ℕ) → a ≤ x → x < a + m → f x ≡ true) → m + count f a ≤ count f (a + m)
count_span f a zero h = let e : a + 0 ≡ a = omega arith in rw e (omega arith)
count_span f a (suc m) h =
    let e : a + suc m ≡ suc (a + m) = omega arith in
    rw e (omega (arith, count-suc f (a + m) (h (a + m) (omega arith) (omega arith)), count_span f a m (λ x u v. h x u (omega arith))))

-- so many registers can be touched
most_data_lem : count reachable register_count ≡ most_data
unfolding count reachable settable field_mask zero_mask mask_where table timing output picture dnr
most_data_lem = refl

-- an ascending list of transactions that touch only such registers has no more data than there are
data_below : (ts : List Transaction) (i : ℕ) → i ≤ register_count → Every (λ t. end t ≤ register_count) ts → Every Reachable ts → Ascending i ts
    → data_count ts + count reachable i ≤ most_data
unfolding data_count
data_below [] i h e r a = omega (arith, count_mono reachable i register_count h, most_data_lem)
data_below (t ∷ ts) i h e r a =
    omega (
      arith,
      data_below ts (end t) e.0 e.1 r.1 a.1,
      count_span reachable t.subaddress (size t) (λ x u v. r.0 x (u, v)),
      count_mono reachable i t.subaddress a.0,
    )

-- ---- the bus bytes are at most those of a list that touches every register that can be set, and no other

-- 1A and 1B can be set
settable_1a : settable 0x1a ≡ true
unfolding settable field_mask zero_mask mask_where table timing output picture dnr
settable_1a = refl

settable_1b : settable 0x1b ≡ true
unfolding settable field_mask zero_mask mask_where table timing output picture dnr
settable_1b = refl

-- a transaction of zeros
abbrev stretch : ℕ → ℕ → Transaction
stretch subaddress n = record { subaddress = subaddress; bytes = replicate n 0 }

-- transactions of at most four data, with n of signalling's registers
unfoldable short : ℕ → List Transaction
short n =
    stretch 0x00 3 ∷ stretch 0x05 1 ∷ stretch 0x0c 4 ∷ stretch 0x10 1 ∷ stretch 0x19 n ∷ stretch 0x1d 4 ∷ stretch 0x21 4 ∷ stretch 0x25 4
    ∷ stretch 0x29 4 ∷ stretch 0x2d 4 ∷ stretch 0x31 3 ∷ []

-- and the longest ones
unfoldable long : ℕ → List Transaction
long n = stretch 0x00 3 ∷ stretch 0x05 1 ∷ stretch 0x0c 5 ∷ stretch 0x19 n ∷ stretch 0x1d 23 ∷ []

-- a register that can be set and isn't one that signalling may leave as found
unfoldable plain : ℕ → Bool
plain r = settable r && not (among 0x1a 0x1b r)

-- every register that a list touches is of a kind
abbrev within : (ℕ → Bool) → List Transaction → Bool
within kind [] = true
within kind (t ∷ ts) = below (λ d. kind (t.subaddress + d)) (size t) && within kind ts

-- no transaction of a list has more than m data
abbrev sized : ℕ → List Transaction → Bool
sized m [] = true
sized m (t ∷ ts) = leb (size t) m && sized m ts

-- a list keeps the rules and a limit, and touches all registers of a kind and no other
record Serves (m : ℕ) (kind : ℕ → Bool) (ts : List Transaction) : Type 0 where
  rules : T (all_keep_rules ts)
  sizes : T (sized m ts)
  inside : T (within kind ts)
  all : T (below (λ r. imp (kind r) (touched_by ts r)) register_count)

-- so do these
short-settable : Serves least_limit settable (short 3)
unfolding short all_keep_rules keeps_rules settable field_mask zero_mask mask_where table timing output picture dnr
short-settable = record { rules = tt; sizes = tt; inside = tt; all = tt }

short-plain : Serves least_limit plain (short 1)
unfolding short plain all_keep_rules keeps_rules settable field_mask zero_mask mask_where table timing output picture dnr
short-plain = record { rules = tt; sizes = tt; inside = tt; all = tt }

long_settable : Serves wide_limit settable (long 3)
unfolding long all_keep_rules keeps_rules settable field_mask zero_mask mask_where table timing output picture dnr
long_settable = record { rules = tt; sizes = tt; inside = tt; all = tt }

long_plain : Serves wide_limit plain (long 1)
unfolding long plain all_keep_rules keeps_rules settable field_mask zero_mask mask_where table timing output picture dnr
long_plain = record { rules = tt; sizes = tt; inside = tt; all = tt }

-- a list of transactions so long keeps any limit from there on
all-within : (m limit : ℕ) → m ≤ limit → (ts : List Transaction) → T (sized m ts) → Every (Within limit) ts
all-within m limit l [] s = tt
all-within m limit l (t ∷ ts) s =
    (omega (arith, leb→le (size t) m (first (leb (size t) m) (sized m ts) s)), all-within m limit l ts (second (leb (size t) m) (sized m ts) s))

-- what is no dearer has no more bus bytes
no_more_bytes : (ts us : List Transaction) → NoDearer ts us → bus_bytes ts ≤ bus_bytes us
unfolding NoDearer
no_more_bytes ts us h = ⊎_elim (λ u. omega arith) (λ u. omega arith) h

module _ (a : Aim) (χ : Change a) where
  -- the plan's data
  few_data : data_count (plan_of a) ≤ most_data
  unfolding count
  few_data =
      let ascending = plan-ascending a χ in
      omega (arith, data_below (plan_of a) 0 (omega arith) (plan-inside a χ) (plan_reachable a χ) ascending)

  -- a list that touches only compared registers is clear
  all-clear : (kind : ℕ → Bool) → ((r : ℕ) → r < register_count → kind r ≡ true → compared a r ≡ true) → (ts : List Transaction)
      → Every Rules ts → T (within kind ts) → Every (Clear a) ts
  all-clear kind c [] h w = tt
  all-clear kind c (t ∷ ts) h w =
      let here = below (λ d. kind (t.subaddress + d)) (size t) in (
        λ r u. c r (h.0.inside r u).0 (of_kind r u (first here (within kind ts) w)),
        all-clear kind c ts h.1 (second here (within kind ts) w),
      )
    where
      of_kind : (r : ℕ) → Touches t r → T (below (λ d. kind (t.subaddress + d)) (size t)) → kind r ≡ true
      of_kind r u k =
          let e : t.subaddress + (r - t.subaddress) ≡ r = omega arith in
          rw e at (holds (kind (t.subaddress + (r - t.subaddress))) (below_at (λ d. kind (t.subaddress + d)) (size t) k (r - t.subaddress) (omega arith)))

  -- the plan has no more bytes than a list of all registers of a kind, where these are compared and what must be written is of the kind
  no_more : (m : ℕ) → m ≤ a.limit → (kind : ℕ → Bool) (ts : List Transaction) → Serves m kind ts
      → ((r : ℕ) → r < register_count → kind r ≡ true → compared a r ≡ true) → ((r : ℕ) → must a r ≡ true → kind r ≡ true)
      → bus_bytes (plan_of a) ≤ bus_bytes ts
  no_more m l kind ts s c k =
      let rules = (agree_all ts).0 s.rules in
      no_more_bytes (plan_of a) ts
      (touching_no_dearer a χ ts rules (all-within m a.limit l ts s.sizes) (all-clear kind c ts rules s.inside)
      (λ r e. (touched_agree ts r).0 (imp→ (kind r) (touched_by ts r) (below_at (λ x. imp (kind x) (touched_by ts x)) register_count s.all r
      (must-settable a χ r e).0) (k r e))))

  module _ (τ : Told a) where
    -- 1A and 1B are not needed
    abbrev Spare : Type 0
    Spare = (must a 0x1a ≡ false) × (must a 0x1b ≡ false)

    -- what is plain is compared
    plain-compared : (r : ℕ) → r < register_count → plain r ≡ true → compared a r ≡ true
    unfolding plain
    plain-compared r h e =
        let q = both_true (settable r) (not (among 0x1a 0x1b r)) e in
        ⊎_elim (λ c. c) (λ c. absurd (false≢true (sym (not-true (among 0x1a 0x1b r) q.1) ∙ (τ r h q.0 c).0))) (flag (compared a r))

    -- what must be written is plain where 1A and 1B are not needed
    must-plain : Spare → (r : ℕ) → must a r ≡ true → plain r ≡ true
    unfolding plain
    must-plain s r m = by (among 0x1a 0x1b r) refl
      where
        neither : (r ≡ 0x1a) ⊎ (0x1b ≤ r) → r ≤ 0x1b → ⊥
        neither (inl p) q = false≢true (sym s.0 ∙ rw p at m)
        neither (inr p) q = let z : r ≡ 0x1b = omega arith in false≢true (sym s.1 ∙ rw z at m)

        by : (b : Bool) → among 0x1a 0x1b r ≡ b → plain r ≡ true
        by true e = let u = among_true 0x1a 0x1b r e in absurd (neither (later 0x1a r u.0) u.1)
        by false e = rw ((must-settable a χ r m).1, e)

    -- either every register that can be set is compared, or 1A and 1B are not needed
    all-compared : ((r : ℕ) → r < register_count → settable r ≡ true → compared a r ≡ true) ⊎ Spare
    all-compared = by (flag (compared a 0x1a)) (flag (compared a 0x1b))
      where
        by : (compared a 0x1a ≡ true) ⊎ (compared a 0x1a ≡ false) → (compared a 0x1b ≡ true) ⊎ (compared a 0x1b ≡ false)
            → ((r : ℕ) → r < register_count → settable r ≡ true → compared a r ≡ true) ⊎ Spare
        by (inl x) (inl y) = inl (λ r h e. ⊎_elim (λ c. c) (λ c. spare r (τ r h e c).0) (flag (compared a r)))
          where
            at : (r : ℕ) → (r ≡ 0x1a) ⊎ (0x1b ≤ r) → r ≤ 0x1b → compared a r ≡ true
            at r (inl p) q = rw p x
            at r (inr p) q = let z : r ≡ 0x1b = omega arith in rw z y

            spare : (r : ℕ) → among 0x1a 0x1b r ≡ true → compared a r ≡ true
            spare r e = let u = among_true 0x1a 0x1b r e in at r (later 0x1a r u.0) u.1
        by (inl x) (inr y) = inr (τ 0x1b (omega arith) settable_1b y).1
        by (inr x) y = inr (τ 0x1a (omega arith) settable_1a x).1

    -- so the plan's bytes are no more than those of a list with signalling's three registers, or with one of them
    bounded : (m : ℕ) → m ≤ a.limit → (list : ℕ → List Transaction) → Serves m settable (list 3) → Serves m plain (list 1)
        → (bus_bytes (plan_of a) ≤ bus_bytes (list 3)) ⊎ (bus_bytes (plan_of a) ≤ bus_bytes (list 1))
    bounded m l list s p =
        ⊎_elim (λ c. inl (no_more m l settable (list 3) s c (λ r e. (must-settable a χ r e).1)))
        (λ u. inr (no_more m l plain (list 1) p plain-compared (must-plain u))) all-compared

    -- the plan's bus bytes, with any limit
    few_bytes : bus_bytes (plan_of a) ≤ most_cost
    unfolding short bus_bytes
    few_bytes =
        ⊎_elim (λ u. omega arith) (λ u. omega arith) (bounded least_limit (right-limit a.limit χ.limited).0 short short-settable short-plain)

    -- the plan's bits
    pub plan-bits : length (packed_bits (plan_of a)) ≤ most_bits
    plan-bits = omega (arith, few_data, few_bytes, bytes_count (plan_of a), packed_bits-length (plan_of a))

    -- the packed plan's bytes
    pub plan-room : length (packed (plan_of a)) ≤ most_bytes
    plan-room = rw (packed-length (plan_of a)) (omega (arith, few_data, few_bytes, bytes_count (plan_of a)))

    module _ (wide : wide_limit ≤ a.limit) where
      -- the plan's bus bytes, with a wide limit
      wide_bytes_lem : bus_bytes (plan_of a) ≤ wide_cost
      unfolding long bus_bytes
      wide_bytes_lem = ⊎_elim (λ u. omega arith) (λ u. omega arith) (bounded wide_limit wide long long_settable long_plain)

      -- its bits
      pub wide_bits_lem : length (packed_bits (plan_of a)) ≤ wide_bits
      wide_bits_lem = omega (arith, few_data, wide_bytes_lem, bytes_count (plan_of a), packed_bits-length (plan_of a))

      -- the packed plan's bytes
      pub wide_room : length (packed (plan_of a)) ≤ wide_bytes
      wide_room = rw (packed-length (plan_of a)) (omega (arith, few_data, wide_bytes_lem, bytes_count (plan_of a)))
