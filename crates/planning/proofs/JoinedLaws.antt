-- The plan where no limit is in force is the runs of the registers covered, and what is packed after its first transaction. Assumes nothing.
use mathlib.Core.Path.{◌≡◌, refl, sym, ap, ◌∙◌}
use mathlib.Core.Bool.{Bool, true, false, not, ◌&&◌}
use mathlib.Core.List.{List, [], ◌∷◌, ◌++◌, append_assoc, flat_map}
use Prim.Native.Nat.{ℕ, zero, suc, ◌+◌, ◌-◌, ◌*◌, ◌^◌, ◌≤◌, ◌<◌}
use native.Mathlib.Nat.{sub-zero}
use native.Mathlib.Omega.{arith}
use lib.Bits.{bit_and}
use lib.ListN.{length, get_or, take, drop, length-append}
use lib.Seq.{drop-drop, length-take-le}
use Rattle.bits.specs.Strings.{msb_first, byte_bits, bytes_of}
use Rattle.bits.specs.Maps.{map_width, has, complement}
use Rattle.bits.proofs.ByteLaws.{byte_bits-length, bytes_of-length}
use Rattle.bus.specs.Transactions.{Transaction, size}
use Rattle.bus.specs.Cost.{data_count}
use Rattle.packing.specs.declared.Pending.{Pending}
use Rattle.packing.specs.Packing.{transaction_bits, packed}
use Rattle.packing.specs.Written.{list_bits, Put, Room, written, finished_with}
use Rattle.packing.proofs.PackedLaws.{transaction_bits-length}
use Rattle.least_cost.specs.Task.{Task}
use Rattle.least_cost.specs.Plan.{Open, begin, taking, leaving, joining, scan, extend, greedy_plan}
use Rattle.least_cost.proofs.Best.{scan-need, scan_skip, extend-goes, extend-leaves}
use Rattle.least_cost.proofs.Alike.{greedy_alike}
use Rattle.least_cost.proofs.Within.{greedy_within, plan-within}
use Rattle.cutting.specs.Task.{largest_count, map_task, Plannable, plan_by}
use Rattle.cutting.proofs.CutLaws.{map-sound, map-limited}
use Rattle.planning.specs.Registers.{covers, before, begins}
use Rattle.planning.specs.Plan.{list_of, Mapped, joined_by}
use Rattle.planning.proofs.RunLaws.{closed, opened, uncovered, covered_ok}
use Rattle.planning.proofs.CountLaws.{Maps}
use Rattle.planning.proofs.PlanLaws.{has-without, mapped_list, opening, begun-room, begun-done}
use Rattle.bits.specs.Lists.{Every}

-- ---- the maps of the plan

module _ (needed allowed taken starts : ℕ) (w : List ℕ) (ht : taken < 2 ^ 64) (hs : starts < 2 ^ 64)
    (writable : (i : ℕ) → has needed i ≡ true → has allowed i ≡ true) (covered : (i : ℕ) → has taken i ≡ covers (has needed) (has allowed) i)
    (first : (i : ℕ) → has starts i ≡ begins (has taken) i) where
  -- the registers that its transactions go on over
  abbrev goes : ℕ
  goes = bit_and taken (complement starts)

  -- are those that follow another
  goes_on : (i : ℕ) → has goes i ≡ (has taken i && before (has taken) i)
  goes_on i = has-without taken starts i ht hs ∙ ap (λ (b : Bool). has taken i && not b) (first i) ∙ by (has taken i) (before (has taken) i)
    where
      by : (a b : Bool) → (a && not (a && not b)) ≡ (a && b)
      by true true = refl
      by true false = refl
      by false b = refl

  -- the maps of its transactions
  maps : Maps taken starts goes
  maps = record {
    goes = λ i. has-without taken starts i ht hs;
    only = λ i e. by (has taken i) (before (has taken) i) (sym (first i) ∙ e);
    begins = λ i e f. first i ∙ rw (e, f);
  }
    where
      by : (a b : Bool) → (a && not b) ≡ true → a ≡ true
      by true b e = refl
      by false b e = e

  -- the task of the needed registers, and that of those taken
  abbrev p : Task
  p = map_task (length w) needed allowed 0 map_width

  abbrev q : Task
  q = map_task (length w) taken taken 0 map_width

  -- the plans of both, with no transaction open and with one
  abbrev scan₁ : ℕ → ℕ → List Transaction
  scan₁ k i = scan p (joining p (has allowed)) (λ r. get_or w r 0) k i

  abbrev scan₂ : ℕ → ℕ → List Transaction
  scan₂ k i = scan q (λ k x s. has goes x) (λ r. get_or w r 0) k i

  abbrev extend₁ : ℕ → ℕ → ℕ → Open
  extend₁ k i s = extend p (joining p (has allowed)) (λ r. get_or w r 0) k i s

  abbrev extend₂ : ℕ → ℕ → ℕ → Open
  extend₂ k i s = extend q (λ k x s. has goes x) (λ r. get_or w r 0) k i s

  -- they are the same from register i on
  abbrev Same : ℕ → ℕ → Type 0
  Same k i = (before (has taken) i ≡ false → scan₁ k i ≡ scan₂ k i) × (before (has taken) i ≡ true → (s : ℕ) → extend₁ k i s ≡ extend₂ k i s)

  module _ (k i : ℕ) (ih : Same k (suc i)) where
    abbrev want : ℕ → ℕ
    want r = get_or w r 0

    -- where the register isn't taken
    skips : has taken i ≡ false → scan₁ (suc k) i ≡ scan₂ (suc k) i
    skips e =
        scan_skip p (joining p (has allowed)) want k i (uncovered (has needed) (has allowed) (has taken) writable covered i e)
        ∙ ih.0 e ∙ sym (scan_skip q (λ k x s. has goes x) want k i e)

    -- with no transaction open
    scan_step : (b : Bool) → has taken i ≡ b → before (has taken) i ≡ false → scan₁ (suc k) i ≡ scan₂ (suc k) i
    scan_step false e f = skips e
    scan_step true e f =
        scan-need p (joining p (has allowed)) want k i (sym (closed (has needed) (has allowed) (has taken) writable covered i f) ∙ e)
        ∙ ap (begin i (want i)) (ih.1 e i) ∙ sym (scan-need q (λ k x s. has goes x) want k i e)

    -- and with one open that started at s
    extend-step : (s : ℕ) (b : Bool) → has taken i ≡ b → before (has taken) i ≡ true → extend₁ (suc k) i s ≡ extend₂ (suc k) i s
    extend-step s false e f =
        extend-leaves p (joining p (has allowed)) want k i s (sym (opened (has needed) (has allowed) (has taken) writable covered i f) ∙ e)
        ∙ ap leaving (skips e) ∙ sym (extend-leaves q (λ k x s. has goes x) want k i s (goes_on i ∙ rw e))
    extend-step s true e f =
        extend-goes p (joining p (has allowed)) want k i s (sym (opened (has needed) (has allowed) (has taken) writable covered i f) ∙ e)
        ∙ ap (taking (want i)) (ih.1 e s) ∙ sym (extend-goes q (λ k x s. has goes x) want k i s (goes_on i ∙ rw (e, f)))

  -- at every register
  same : (k i : ℕ) → Same k i
  unfolding scan
  same zero i = (λ e. refl, λ e s. refl)
  same (suc k) i =
      let ih = same k (suc i) in
      (λ e. scan_step k i ih (has taken i) refl e, λ e s. extend-step k i ih s (has taken i) refl e)

  -- the list of the maps is the plan
  list-is-joined : list_of taken goes w ≡ joined_by needed allowed w
  unfolding greedy_plan
  list-is-joined = rw (sub-zero (length w)) (sym ((same (length w) 0).0 refl))

  -- so the maps are the plan's
  pub joined_mapped : ((i : ℕ) → has allowed i ≡ true → i < length w) → Mapped (joined_by needed allowed w) w taken starts goes
  joined_mapped inside =
      mapped_list (joined_by needed allowed w) w taken starts goes ht hs maps
      (λ i e. inside i (covered_ok (has needed) (has allowed) (has taken) writable covered i e)) list-is-joined

-- no transaction of a list has more data than the list
no_longer : (limit : ℕ) (ts : List Transaction) → data_count ts ≤ limit → Every (λ t. size t ≤ limit) ts
unfolding data_count
no_longer limit [] h = tt
no_longer limit (t ∷ ts) h = (omega arith, no_longer limit ts (omega arith))

module _ (needed allowed held limit : ℕ) (w : List ℕ) (π : Plannable needed allowed held limit w) where
  -- the task with the limit, and the wanted bytes
  abbrev task : Task
  task = map_task (length w) needed allowed held limit

  abbrev bytes : ℕ → ℕ
  bytes r = get_or w r 0

  -- the limit doesn't matter to the plan that joins gaps
  as_joined : greedy_plan task (has allowed) bytes ≡ joined_by needed allowed w
  as_joined = greedy_alike task (map_task (length w) needed allowed 0 map_width) (has allowed) (has allowed) bytes refl (λ i. refl) (λ i. refl)

  -- that is the plan where it keeps the limit
  pub within-joined : Every (λ t. size t ≤ limit) (joined_by needed allowed w) → plan_by needed allowed held limit w ≡ joined_by needed allowed w
  within-joined keeps =
      plan-within task bytes (map-sound needed allowed held limit w π) (has allowed) limit (map-limited needed allowed held limit w π) π.some
      (rw as_joined keeps)
      ∙ as_joined

  -- a limit that is no less than the number of registers changes nothing
  pub plan-joined : length w ≤ limit → plan_by needed allowed held limit w ≡ joined_by needed allowed w
  plan-joined h =
      within-joined
      (rw as_joined at
      (greedy_within task bytes (map-sound needed allowed held limit w π) (has allowed) limit (map-limited needed allowed held limit w π) π.some h))

  -- nor does one that is no less than the number of data
  pub few-joined : data_count (joined_by needed allowed w) ≤ limit → plan_by needed allowed held limit w ≡ joined_by needed allowed w
  few-joined h = within-joined (no_longer limit (joined_by needed allowed w) h)

-- ---- after its first transaction

-- a plan finished after a string was put into it is finished with both
finished_after : (before mid : List ℕ) (p : Pending) (xs : List Bool) (r : Pending) (ys : List Bool) → r.at ≤ length mid → Put before mid p xs r
    → finished_with mid (written mid r ++ ys) ≡ finished_with before (written before p ++ (xs ++ ys))
finished_after before mid p xs r ys room k =
    let bits : written mid r ++ ys ≡ written before p ++ (xs ++ ys) = ap (λ (l : List Bool). l ++ ys) k.wrote ∙ append_assoc (written before p) xs ys in
    let n = length (bytes_of (written mid r ++ ys)) in
    let far : r.at + (n - r.at) ≡ n = omega (
      arith,
      bytes_of-length (written mid r ++ ys),
      length-append (written mid r) ys,
      length-append (byte_bits (take r.at mid)) (msb_first r.count r.bits),
      byte_bits-length (take r.at mid),
      length-take-le r.at mid room,
    ) in
    let past : (l : List ℕ) → drop n l ≡ drop (n - r.at) (drop r.at l) =
    λ l. ap (λ (m : ℕ). drop m l) (sym far) ∙ sym (drop-drop (n - r.at) r.at l) in
    ap (λ (d : List ℕ). bytes_of (written mid r ++ ys) ++ d) (past mid ∙ ap (drop (n - r.at)) k.past ∙ sym (past before)) ∙ ap (finished_with before) bits

module _ (t : Transaction) (ts : List Transaction) (plan : List ℕ) (first : Pending) (n : ℕ) (few : n ≤ largest_count) (told : n ≡ length (t ∷ ts))
    (is : first ≡ opening n) (fits : length (packed (t ∷ ts)) ≤ length plan) where
  -- the bits of all
  all-bits : length (list_bits (t ∷ ts)) ≡ 12 + size t * 8 + length (list_bits ts)
  unfolding flat_map
  all-bits = length-append (transaction_bits t) (list_bits ts) ∙ omega (arith, transaction_bits-length t)

  -- it has room
  pub first-room : Room plan first (12 + size t * 8)
  first-room = omega (arith, begun-room (t ∷ ts) plan first n few told is fits, all-bits)

  module _ (mid : List ℕ) (r : Pending) (long : length mid ≡ length plan) (k : Put plan mid first (transaction_bits t) r) where
    -- and so have the others after it
    pub later-room : Room mid r (length (list_bits ts))
    later-room = omega (arith, begun-room (t ∷ ts) plan first n few told is fits, all-bits, k.more, transaction_bits-length t)

    -- and then the plan is the packing of all
    pub later-done : (after : List ℕ) → after ≡ finished_with mid (written mid r ++ list_bits ts)
        → after ≡ packed (t ∷ ts) ++ drop (length (packed (t ∷ ts))) plan
    unfolding flat_map
    later-done after e =
        begun-done (t ∷ ts) plan first n few told is after
        (e ∙ finished_after plan mid first (transaction_bits t) r (list_bits ts) (omega (arith, later-room)) k)
