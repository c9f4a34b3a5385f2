-- The plan is acknowledged throughout, comes back from its packing, and never has more than 41 bytes packed. Assumes nothing.
use mathlib.Core.Path.{◌≡◌, refl, sym, ◌∙◌}
use mathlib.Core.Logic.{◌⊎◌, inl, inr}
use mathlib.Core.Bool.{Bool, true, false, false≢true}
use mathlib.Core.List.{List, [], ◌∷◌}
use Prim.Native.Nat.{ℕ, ◌+◌, ◌*◌, ◌^◌, ◌≤◌, ◌<◌}
use native.Mathlib.Omega.{arith}
use lib.Dec.{eqb}
use lib.ListN.{length, get_or}
use lib.Seq.{get_or-set_same, get_or-set_other}
use borrow.Author.Tests.{eqb-true, eqb-false}
use Rattle.refusals.specs.Refusal.{accepted}
use Rattle.bus.specs.Registers.{differs}
use Rattle.bus.specs.Transactions.{Transaction, Touched, bus_bytes}
use Rattle.bus.specs.Run.{idle_at, all_acknowledged, list_events}
use Rattle.bus.proofs.Acknowledged.{Fits, acknowledged-list}
use Rattle.bus.proofs.CostLaws.{bytes_count}
use Rattle.bus.proofs.RegisterLaws.{among_in, among_out, among?}
use Rattle.packing.specs.Packing.{packed, anywhere, Packs}
use Rattle.packing.proofs.PackedLaws.{packed-length}
use Rattle.unpacking.specs.Unpacking.{unpack_by, CountedBy}
use Rattle.unpacking.proofs.Tests.{Encodable}
use Rattle.unpacking.proofs.Exact.{unpacks_packed}
use Rattle.unpacking.proofs.Anywhere.{round_trip_anywhere}
use Rattle.least_cost.specs.Order.{Holds}
use Rattle.least_cost.specs.Weight.{byte_weight, start_weight, weights}
use Rattle.least_cost.proofs.WeightLaws.{weights-is, two_each}
use Rattle.least_cost.proofs.Held.{holds-bytes}
use Rattle.adv7195_bus.specs.Kind.{adv7195}
use Rattle.adv7195_bus.specs.Rules.{Rules, writable}
use Rattle.adv7195_bus.specs.Order.{flipped}
use Rattle.adv7195_bus.proofs.RuleLaws.{writable_facts}
use Rattle.adv7195_least.specs.Reaching.{Change}
use Rattle.adv7195_least.specs.Plan.{plan_for, beside, preparing, flip_plan, preparing_start, plan_of}
use Rattle.adv7195_least.specs.Demands.{most_bytes}
use Rattle.adv7195_least.proofs.TaskLaws.{bound, plan-is, plan-covers, plan-fits, plan-holds}
use Rattle.adv7195_least.proofs.Differing.{beside_03, differs-writable, beside-writable}
use Rattle.adv7195_least.proofs.Candidates.{span, low-rules, flip_weight, candidate, start_is, start-least}
use Rattle.adv7195_least.proofs.Reached.{with_preparing, preparing-holds, preparing-end}
use Rattle.bits.specs.Lists.{Every}

-- ---- what the packing can hold

-- a transaction with data that are bytes, for registers of the chip
holds-encodable : (want : ℕ → ℕ) → ((x : ℕ) → want x < 2 ^ 8) → (own : ℕ) (t : Transaction) → Holds want t → Fits (adv7195 own) t → Encodable t
holds-encodable want b own t h f =
    let e = f.ends in
    let s = f.some in
    record { subaddress = omega arith; some = s; count = omega arith; bytes = holds-bytes want b t h }

-- the same for a list
all-encodable : (want : ℕ → ℕ) → ((x : ℕ) → want x < 2 ^ 8) → (own : ℕ) (ts : List Transaction) → Every (Holds want) ts → Every (Fits (adv7195 own)) ts
    → Every Encodable ts
all-encodable want b own [] h f = tt
all-encodable want b own (t ∷ ts) h f = (holds-encodable want b own t h.0 f.0, all-encodable want b own ts h.1 f.1)

-- ---- two transactions that write every register

-- 00 to 09 and 10 to 27
abbrev everything : List Transaction
everything = span 0x00 0x0a ∷ span 0x10 0x28 ∷ []

-- they keep the rule
everything_rules : Every Rules everything
everything_rules = (
  low-rules 0x00 0x0a (omega arith),
  (record { inside = λ r u. (omega arith, among_out 0x0a 0x0f r (inr (omega arith))) }, tt),
)

-- and touch whatever may be written
everything_touched : (x : ℕ) → writable x ≡ true → Touched everything x
everything_touched x e = split (among? 0x0a 0x0f x)
  where
    split : ((0x0a ≤ x) × (x ≤ 0x0f)) ⊎ ((x < 0x0a) ⊎ (0x0f < x)) → Touched everything x
    split (inl u) = absurd (false≢true (sym (writable_facts x e).1 ∙ among_in 0x0a 0x0f x u.0 u.1))
    split (inr (inl u)) = inl (omega arith)
    split (inr (inr u)) = let q = (writable_facts x e).0 in inr (inl (omega arith))

module _ (image wanted : List ℕ) (χ : Change image wanted) where
  -- the plan's start
  abbrev start : ℕ
  start = preparing_start image wanted

  -- its transactions after the first, where MR36 flips
  abbrev others : List Transaction
  others = plan_for (beside image wanted start) wanted

  -- ---- how much the plan weighs

  -- where MR36 stays
  steady_weighs : weights (plan_for (differs image wanted) wanted) ≤ 2 * start_weight + byte_weight * 34
  unfolding weights
  steady_weighs =
      let fits = differs-writable image wanted χ in
      omega (
        arith,
        (plan-is (differs image wanted) fits wanted).weighs,
        bound (differs image wanted) fits everything everything_rules (λ x d. everything_touched x (fits x d)),
      )

  -- and where it flips
  flip_light : flip_weight image wanted start ≤ 3 * start_weight + byte_weight * 35
  unfolding weights
  flip_light =
      omega (
        arith,
        start-least image wanted χ 0x09 (omega arith) (omega arith),
        candidate image wanted χ 0x09 everything (record {
          rules = everything_rules;
          covers = λ x d. inr (everything_touched x (differs-writable image wanted χ x d));
          flips = everything_touched 0x03 refl;
          restored = λ z. everything_touched 0x09 refl;
        }),
      )

  -- ---- the plan that flips MR36

  -- a list that touches a register is not empty
  not_empty : (ts : List Transaction) (x : ℕ) → Touched ts x → 0 < length ts
  not_empty [] x u = elim u [ ]
  not_empty (t ∷ ts) x u = omega arith

  -- its transactions have data, for registers of the chip
  flip_fits : (own : ℕ) → Every (Fits (adv7195 own)) (flip_plan image wanted start)
  unfolding flip_plan
  flip_fits own =
      let s = (start_is image wanted χ).to in
      let e = preparing-end image wanted χ start s in
      let x = e.0 in
      let y = e.1 in
      (record { some = omega arith; ends = omega arith }, plan-fits (beside image wanted start) (beside-writable image wanted χ start) wanted own)

  -- 3E is a byte too
  preparing-byte : (x : ℕ) → with_preparing wanted x < 2 ^ 8
  preparing-byte x = split (eqb x 0x09) refl
    where
      split : (b : Bool) → eqb x 0x09 ≡ b → with_preparing wanted x < 2 ^ 8
      split true e = let n = χ.wants in rw (eqb-true x 0x09 e) (omega (arith, get_or-set_same wanted 0x09 0x3e 0 (omega arith)))
      split false e = rw (get_or-set_other wanted 0x09 x 0x3e 0 (eqb-false x 0x09 e)) (χ.bytes x)

  -- the packing can hold them
  flip_encodable : Every Encodable (flip_plan image wanted start)
  unfolding flip_plan
  flip_encodable =
      let f = flip_fits 0 in (
        holds-encodable (with_preparing wanted) preparing-byte 0 (preparing wanted start) (preparing-holds image wanted χ start) f.0,
        all-encodable (λ r. get_or wanted r 0) χ.bytes 0 others (plan-holds (beside image wanted start) (beside-writable image wanted χ start) wanted)
            f.1,
      )

  -- there are two at least
  flip_two : 2 ≤ length (flip_plan image wanted start)
  unfolding flip_plan
  flip_two =
      let fits = beside-writable image wanted χ start in
      omega (arith, not_empty others 0x03 (plan-covers (beside image wanted start) fits wanted 0x03 (beside_03 image wanted start)))

  -- ---- the plan

  -- what is shown of it
  record Packable (ts : List Transaction) : Type 0 where
    fits : (own : ℕ) → Every (Fits (adv7195 own)) ts
    encodable : Every Encodable ts
    few : length ts < 64
    room : length (packed ts) ≤ most_bytes

  -- where MR36 flips
  flip_packable : Packable (flip_plan image wanted start)
  flip_packable =
      let w = flip_light in
      let k = weights-is (flip_plan image wanted start) in
      let z = two_each (flip_plan image wanted start) in
      record {
        fits = flip_fits;
        encodable = flip_encodable;
        few = omega arith;
        room = omega (arith, packed-length (flip_plan image wanted start), bytes_count (flip_plan image wanted start), flip_two);
      }

  -- where it stays
  steady_packable : Packable (plan_for (differs image wanted) wanted)
  steady_packable =
      let ts = plan_for (differs image wanted) wanted in
      let fit = differs-writable image wanted χ in
      let f = plan-fits (differs image wanted) fit wanted in
      let w = steady_weighs in
      let k = weights-is ts in
      let z = two_each ts in
      record {
        fits = f;
        encodable = all-encodable (λ r. get_or wanted r 0) χ.bytes 0 ts (plan-holds (differs image wanted) fit wanted) (f 0);
        few = omega arith;
        room = omega (arith, packed-length ts, bytes_count ts);
      }

  -- so of the plan
  packable : Packable (plan_of image wanted)
  unfolding plan_of
  packable = split (flipped image wanted) refl
    where
      split : (b : Bool) → flipped image wanted ≡ b → Packable (plan_of image wanted)
      split true e = rw e flip_packable
      split false e = rw e steady_packable

  -- it is acknowledged throughout
  pub plan-acknowledged : (own pointer : ℕ) → all_acknowledged (adv7195 own) (idle_at pointer image) (list_events own (plan_of image wanted)) ≡ true
  plan-acknowledged own pointer = acknowledged-list (adv7195 own) (plan_of image wanted) (idle_at pointer image) (packable.fits own)

  -- it comes back from its packing
  pub plan_unpacks : unpack_by anywhere (packed (plan_of image wanted)) ≡ accepted (plan_of image wanted)
  plan_unpacks = round_trip_anywhere (plan_of image wanted) packable.few packable.encodable

  -- so its bytes pack it
  pub plan-packs : Packs anywhere (packed (plan_of image wanted)) (plan_of image wanted)
  plan-packs = unpacks_packed anywhere (packed (plan_of image wanted)) (plan_of image wanted) plan_unpacks

  -- its numbers are the packing's
  pub plan-counted : (let ts = plan_of image wanted in CountedBy anywhere (packed ts) (length (packed ts)) (length ts) (bus_bytes ts))
  plan-counted = record { list = plan_of image wanted; packs = plan-packs; size_is = refl; transactions_are = refl; bytes_are = refl }

  -- and it has at most 41 bytes packed
  pub plan-room : length (packed (plan_of image wanted)) ≤ most_bytes
  plan-room = packable.room
