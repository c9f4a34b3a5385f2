-- The numbers of a plan: counted from its maps, answered where the lent plan has room. Assumes nothing.
use mathlib.Core.Path.{◌≡◌, refl, sym, ap, ap₂, ◌∙◌}
use mathlib.Core.Bool.{Bool, true, false, cond}
use mathlib.Core.List.{List, ◌∷◌, ◌++◌}
use Prim.Native.Nat.{ℕ, ◌+◌, ◌≤◌, ◌<◌}
use native.Mathlib.Omega.{arith}
use lib.Count.{ones}
use lib.Dec.{leb}
use lib.ListN.{length, drop}
use borrow.Author.Tests.{leb-true, leb-false}
use Rattle.refusals.specs.Verdict.{Verdict, refused_at}
use Rattle.bus.specs.Transactions.{Transaction}
use Rattle.bus.specs.Cost.{data_count, cost_of}
use Rattle.bus.proofs.CostLaws.{bytes_count}
use Rattle.packing.specs.declared.Pending.{Pending}
use Rattle.packing.specs.Packing.{packed, packed_length}
use Rattle.packing.specs.Written.{list_bits, Sound, Room, written, finished_with}
use Rattle.packing.proofs.PackedLaws.{packed-length}
use Rattle.cutting.specs.Task.{largest_count}
use Rattle.planning.specs.Plan.{Counts, list_of, Mapped, done, numbers_of}
use Rattle.planning.proofs.PlanLaws.{Answers, too_short, has_room, opening, begun-sound, begun-room, begun-done}

-- ---- what was answered

-- numbers, and there is room for the plan
record Numbered (n d room l t b : ℕ) : Type 0 where
  count : t ≡ n
  size : l ≡ packed_length n d
  cost : b ≡ cost_of n d
  fits : packed_length n d ≤ room

numbered : (n d room l t b : ℕ) → done l t b ≡ numbers_of n d room → Numbered n d room l t b
numbered n d room l t b e = go (leb (packed_length n d) room) refl e
  where
    go : (x : Bool) → leb (packed_length n d) room ≡ x → done l t b ≡ cond x (done (packed_length n d) n (cost_of n d)) (refused_at 10 0)
        → Numbered n d room l t b
    go true p q =
        let same : ◌≡◌ {A = Counts} (record { length = l; transactions = t; bus_bytes = b })
        (record { length = packed_length n d; transactions = n; bus_bytes = cost_of n d }) = cc in
        record {
          count = ap (λ (c : Counts). c.transactions) same;
          size = ap (λ (c : Counts). c.length) same;
          cost = ap (λ (c : Counts). c.bus_bytes) same;
          fits = leb-true (packed_length n d) room p;
        }
    go false p q = absurd cc

-- a refusal, and there is none
unnumbered : (n d room k f : ℕ) → refused_at k f ≡ numbers_of n d room → (room < packed_length n d) × (◌≡◌ {A = Verdict Counts} (refused_at 10 0) (refused_at k f))
unnumbered n d room k f e = go (leb (packed_length n d) room) refl e
  where
    go : (x : Bool) → leb (packed_length n d) room ≡ x → refused_at k f ≡ cond x (done (packed_length n d) n (cost_of n d)) (refused_at 10 0)
        → (room < packed_length n d) × (◌≡◌ {A = Verdict Counts} (refused_at 10 0) (refused_at k f))
    go true p q = absurd cc
    go false p q = (leb-false (packed_length n d) room p, sym q)

-- ---- what was counted

-- a list that packs a plan has so many transactions and data bytes
pub record Told (us ts : List Transaction) (n d : ℕ) : Type 0 where
  pub same : us ≡ ts
  pub counted : n ≡ length us
  pub bytes : d ≡ data_count us

-- that of a plan's maps
pub told_maps : {ts : List Transaction} {w : List ℕ} {taken starts goes : ℕ} → Mapped ts w taken starts goes → {n d : ℕ} → n ≡ ones starts → d ≡ ones taken
    → Told (list_of taken goes w) ts n d
told_maps k en ed = record { same = k.list; counted = en ∙ sym k.transactions; bytes = ed ∙ sym k.bytes }

-- and with a transaction before it
pub told_after : {ts : List Transaction} {w : List ℕ} {taken starts goes : ℕ} (t : Transaction) → Mapped ts w taken starts goes → {n d : ℕ} → n ≡ ones starts
    → d ≡ ones taken → Told (t ∷ list_of taken goes w) (t ∷ ts) (n + 1) (d + length t.bytes)
unfolding data_count
told_after t k en ed =
    record {
      same = ap (λ (l : List Transaction). t ∷ l) k.list;
      counted = omega (arith, en, k.transactions);
      bytes = omega (arith, ed, k.bytes);
    }

-- ---- so that is what packing it answers

module _ {us ts : List Transaction} {n d : ℕ} (plan : List ℕ) (told : Told us ts n d) where
  long : packed_length n d ≡ length (packed us)
  long = ap₂ packed_length told.counted told.bytes ∙ sym (packed-length us)

  -- where it was refused
  pub told_refused : (k f : ℕ) → refused_at k f ≡ numbers_of n d (length plan) → Answers ts plan (refused_at k f) plan
  told_refused k f e =
      let r = unnumbered n d (length plan) k f e in
      let h = r.0 in
      rw (← r.1) (too_short us ts plan told.same (omega (arith, long)))

  module _ {l t b : ℕ} (e : done l t b ≡ numbers_of n d (length plan)) where
    -- where it wasn't
    pub told_fits : length (packed us) ≤ length plan
    told_fits = let k = numbered n d (length plan) l t b e in omega (arith, k.fits, long)

    pub told_room : (after : List ℕ) → after ≡ packed us ++ drop (length (packed us)) plan → Answers ts plan (done l t b) after
    told_room after p =
        let k = numbered n d (length plan) l t b e in
        has_room us ts plan after l t b told.same told_fits (k.size ∙ long) (k.count ∙ told.counted)
        (k.cost ∙ ap₂ cost_of told.counted told.bytes ∙ sym (bytes_count us)) p

    -- after its transaction count
    module _ (few : n ≤ largest_count) (first : Pending) (is : first ≡ opening n) where
      pub told_sound : Sound first
      told_sound = begun-sound us plan first n few told.counted is

      pub told_begun : Room plan first (length (list_bits us))
      told_begun = begun-room us plan first n few told.counted is told_fits

      pub told_packed : (after : List ℕ) → after ≡ finished_with plan (written plan first ++ list_bits us) → Answers ts plan (done l t b) after
      told_packed after p = told_room after (begun-done us plan first n few told.counted is after p)
