-- The plans of maps are the plans of the images, and what they weigh. Assumes nothing.
use mathlib.Core.Path.{◌≡◌, sym, ap, ap₂, ◌∙◌}
use mathlib.Core.Bool.{Bool, true, false, not, false≢true}
use mathlib.Core.List.{List, ◌∷◌}
use Prim.Native.Nat.{ℕ, suc, ◌+◌, ◌-◌, ◌*◌, ◌^◌, ◌≤◌, ◌<◌}
use native.Mathlib.Omega.{arith}
use lib.Count.{ones}
use lib.ListN.{length, get_or, take, drop, set, length-set}
use Rattle.bits.specs.Maps.{map_width, has}
use Rattle.bits.proofs.SetLaws.{none_has}
use Rattle.bus.specs.Registers.{differs}
use Rattle.bus.specs.Transactions.{Transaction}
use Rattle.bus.specs.Cost.{data_count, cost_of}
use Rattle.bus.proofs.CostLaws.{bytes_count}
use Rattle.least_cost.specs.Weight.{byte_weight, weights}
use Rattle.least_cost.proofs.WeightLaws.{weights-is}
use Rattle.least_cost.proofs.Alike.{greedy_alike}
use Rattle.cutting.specs.Task.{map_task, Plannable, plan_by}
use Rattle.planning.specs.Registers.{covers, begins}
use Rattle.planning.specs.Plan.{Joinable, joined_by}
use Rattle.planning.proofs.RoundLaws.{part_slice}
use Rattle.planning.proofs.JoinedLaws.{joined_mapped, plan-joined}
use Rattle.adv7195_bus.specs.Kind.{register_count}
use Rattle.adv7195_bus.specs.Rules.{writable}
use Rattle.adv7195_bus.specs.Order.{mode_register6, preparing_byte, flipped}
use Rattle.adv7195_bus.proofs.RuleLaws.{writable_map, in_writable_map, writable_facts}
use Rattle.adv7195_least.specs.Reaching.{Change}
use Rattle.adv7195_least.specs.Plan.{task_for, plan_for, beside, preparing, flip_plan, preparing_start, plan_of}
use Rattle.adv7195_least.proofs.TaskLaws.{Fitting}
use Rattle.adv7195_least.proofs.Differing.{differs-writable, beside-writable}
use Rattle.adv7195_least.proofs.Candidates.{preparing-size, flip_weighs}

module _ (image wanted : List ℕ) (χ : Change image wanted) (need : ℕ → Bool) (fits : Fitting need) (n : ℕ) (is : (i : ℕ) → has n i ≡ need i) where
  -- the needed registers may be written
  may : (i : ℕ) → has n i ≡ true → has writable_map i ≡ true
  may i e = in_writable_map i ∙ fits i (sym (is i) ∙ e)

  -- and what may be written has a wanted byte
  inside : (i : ℕ) → has writable_map i ≡ true → i < length wanted
  inside i e = omega (arith, χ.wants, (writable_facts i (sym (in_writable_map i) ∙ e)).0)

  -- the joined plan of the maps is the plan for the needed registers
  joined_is : joined_by n writable_map wanted ≡ plan_for need wanted
  unfolding plan_for task_for
  joined_is =
      greedy_alike (map_task (length wanted) n writable_map 0 map_width) (task_for need) (has writable_map) writable (λ r. get_or wanted r 0) χ.wants is
      in_writable_map

  -- a plan can be made for the maps
  plannable : Plannable n writable_map 0 register_count wanted
  plannable = record {
    writable = may;
    inside = inside;
    small = omega (arith, χ.wants);
    some = omega arith;
    most = omega arith;
    first = none_has 0;
    before = λ i e. absurd (false≢true (sym (none_has (suc i)) ∙ e));
    after = λ i e. absurd (false≢true (sym (none_has i) ∙ e));
    stop = λ i e. record { at = suc i; after = omega arith; takes = λ x u v. absurd (omega arith); cut = ap not (none_has (suc i)) };
  }

  -- and it is the plan for the needed registers too
  plan-is : plan_by n writable_map 0 register_count wanted ≡ plan_for need wanted
  plan-is = plan-joined n writable_map 0 register_count wanted plannable (omega (arith, χ.wants)) ∙ joined_is

  -- its transactions and its data, by the registers covered and the starts of their runs
  counts : (taken starts : ℕ) → taken < 2 ^ 64 → starts < 2 ^ 64 → ((i : ℕ) → has taken i ≡ covers (has n) (has writable_map) i)
      → ((i : ℕ) → has starts i ≡ begins (has taken) i)
      → (length (plan_for need wanted) ≡ ones starts) × (data_count (plan_for need wanted) ≡ ones taken)
  counts taken starts ht hs t s =
      let m = joined_mapped n writable_map taken starts wanted ht hs may t s inside in
      let same = m.list ∙ joined_is in
      (sym (ap length same) ∙ m.transactions, sym (ap data_count same) ∙ m.bytes)

module _ (image wanted : List ℕ) (χ : Change image wanted) where
  -- ---- where MR36 stays

  pub plan_stays : (d : ℕ) → ((i : ℕ) → has d i ≡ differs image wanted i) → flipped image wanted ≡ false
      → Plannable d writable_map 0 register_count wanted × (plan_by d writable_map 0 register_count wanted ≡ plan_of image wanted)
  unfolding plan_of
  plan_stays d is e =
      let fits = differs-writable image wanted χ in
      (plannable image wanted χ (differs image wanted) fits d is, plan-is image wanted χ (differs image wanted) fits d is ∙ sym (rw e))

  -- ---- where it flips

  module _ (a n : ℕ) (high : a ≤ mode_register6) (is : (i : ℕ) → has n i ≡ beside image wanted a i) where
    -- what the plan that starts at a weighs
    pub flip_weight_lem : (taken starts : ℕ) → taken < 2 ^ 64 → starts < 2 ^ 64 → ((i : ℕ) → has taken i ≡ covers (has n) (has writable_map) i)
        → ((i : ℕ) → has starts i ≡ begins (has taken) i)
        → byte_weight * cost_of (ones starts + 1) (ones taken + (0x0a - a)) + (ones starts + 1) ≡ weights (flip_plan image wanted a)
    flip_weight_lem taken starts ht hs t s =
        let ts = plan_for (beside image wanted a) wanted in
        let c = counts image wanted χ (beside image wanted a) (beside-writable image wanted χ a) n is taken starts ht hs t s in
        omega (arith, c.0, c.1, flip_weighs image wanted χ a, weights-is ts, bytes_count ts)

    module _ (bytes : List ℕ) (held : bytes ≡ set wanted mode_register6 preparing_byte) where
      -- the bytes of the first transaction
      first-bytes : take (0x0a - a) (drop a bytes) ≡ (preparing wanted a).bytes
      unfolding preparing
      first-bytes =
          ap (λ (l : List ℕ). take (0x0a - a) (drop a l)) held
          ∙ sym (part_slice (set wanted mode_register6 preparing_byte) a 0x0a (omega arith)
          (omega (arith, χ.wants, length-set wanted mode_register6 preparing_byte)))

      -- the plan for what is left can be packed after it
      pub flip_joinable : Joinable a (take (0x0a - a) (drop a bytes)) n writable_map wanted
      flip_joinable =
          let fits = beside-writable image wanted χ a in
          record {
            writable = may image wanted χ (beside image wanted a) fits n is;
            inside = inside image wanted χ (beside image wanted a) fits n is;
            small = omega (arith, χ.wants);
            start = omega arith;
            short = omega (arith, ap length first-bytes, preparing-size image wanted χ a);
          }

      -- and both are the plan
      pub plan_flips : a ≡ preparing_start image wanted → flipped image wanted ≡ true
          → (record { subaddress = a; bytes = take (0x0a - a) (drop a bytes) } ∷ joined_by n writable_map wanted) ≡ plan_of image wanted
      unfolding plan_of flip_plan preparing
      plan_flips from e =
          ap₂ (λ (l : List ℕ) (ts : List Transaction). record { subaddress = a; bytes = l } ∷ ts) first-bytes
          (joined_is image wanted χ (beside image wanted a) (beside-writable image wanted χ a) n is)
          ∙ ap (flip_plan image wanted) from ∙ sym (rw e)
