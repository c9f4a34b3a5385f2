-- A list whose data are for registers that the chip keeps, sent to the chip's own address: the chip then holds what writing the data over its registers
-- gives, and where every transaction has data it is acknowledged throughout. At a wrong address only the empty list is. Assumes nothing.
use mathlib.Core.Path.{◌≡◌, refl, sym, ap, ◌∙◌}
use mathlib.Core.Logic.{◌≢◌}
use mathlib.Core.Bool.{true}
use mathlib.Core.List.{List, [], ◌∷◌, ◌++◌, flat_map}
use Prim.Native.Nat.{ℕ, suc, ◌+◌, ◌-◌, ◌≤◌, ◌<◌}
use native.Mathlib.Omega.{arith}
use lib.Dec.{eqb}
use lib.ListN.{length, set}
use lib.Seq.{sets, length-sets}
use borrow.Author.Tests.{lt-ltb, ne_eqb}
use Rattle.bus.specs.Transactions.{Transaction, size, end}
use Rattle.bus.specs.Chip.{Kind, Chip}
use Rattle.bus.specs.Run.{run, all_acknowledged, list_events, after}
use Rattle.bus.specs.Written.{all_written}
use Rattle.bus.proofs.Play.{Kept, stores, run_transaction, run-list}
use Rattle.bus.proofs.Acknowledged.{Fits, acknowledged-list, unacknowledged_elsewhere}
use Rattle.bus.proofs.After.{next}
use Rattle.bits.specs.Lists.{Every}

-- ---- the data of a list

-- those of one transaction more are written last
pub written-more : (l : List ℕ) (ts : List Transaction) (t : Transaction) → all_written l (ts ++ (t ∷ [])) ≡ sets (all_written l ts) t.subaddress t.bytes
unfolding all_written
written-more l [] t = refl
written-more l (u ∷ ts) t = written-more (sets l u.subaddress u.bytes) ts t

-- the registers are as many
pub written-length : (l : List ℕ) (ts : List Transaction) → length (all_written l ts) ≡ length l
unfolding all_written
written-length l [] = refl
written-length l (t ∷ ts) = written-length (sets l t.subaddress t.bytes) ts ∙ length-sets l t.subaddress t.bytes

-- ---- the chip

module _ (κ : Kind) where
  -- data for registers that keep them are stored one by one
  stores_sets : (bs : List ℕ) (i : ℕ) (l : List ℕ) → ((r : ℕ) → i ≤ r → r < i + length bs → (r < κ.count) × (κ.keeps r ≡ true))
      → stores κ l i bs ≡ sets l i bs
  unfolding stores
  stores_sets [] i l h = refl
  stores_sets (b ∷ bs) i l h =
      let k = h i (omega arith) (omega arith) in
      rw (lt-ltb i κ.count k.0, k.1) (stores_sets bs (suc i) (set l i b) (λ r p q. h r (omega arith) (omega arith)))

  -- a transaction leaves its data
  pub next-written : (c : Chip) (t : Transaction) → Kept κ t → (next κ c t).registers ≡ sets c.registers t.subaddress t.bytes
  next-written c t h = run_transaction κ c t ∙ stores_sets t.bytes t.subaddress c.registers (λ r p q. h r (p, q))

  -- so does a list
  pub run-written : (ts : List Transaction) (c : Chip) → Every (Kept κ) ts → (after κ c ts).registers ≡ all_written c.registers ts
  unfolding run list_events flat_map all_written
  run-written [] c h = refl
  run-written (t ∷ ts) c h =
      ap (λ (d : Chip). d.registers) (run-list κ κ.address c t ts) ∙ run-written ts (next κ c t) h.1
      ∙ ap (λ (l : List ℕ). all_written l ts) (next-written c t h.0)

  -- where transactions have data, the chip has their registers
  all_fit : (ts : List Transaction) → Every (Kept κ) ts → Every (λ t. 0 < size t) ts → Every (Fits κ) ts
  all_fit [] h s = tt
  all_fit (t ∷ ts) h s =
      (record { some = s.0; ends = omega (arith, s.0, (h.0 (end t - 1) (omega (arith, s.0), omega (arith, s.0))).0) }, all_fit ts h.1 s.1)

  -- and they are acknowledged throughout
  pub run-acknowledged : (ts : List Transaction) (c : Chip) → Every (Kept κ) ts → Every (λ t. 0 < size t) ts
      → all_acknowledged κ c (list_events κ.address ts) ≡ true
  run-acknowledged ts c h s = acknowledged-list κ ts c (all_fit ts h s)

  -- at an address that is not the chip's only the empty list is
  pub only-empty : (a : ℕ) → a ≢ κ.address → a ≢ κ.address + 1 → (ts : List Transaction) (c : Chip)
      → all_acknowledged κ c (list_events a ts) ≡ eqb (length ts) 0
  unfolding list_events flat_map all_acknowledged
  only-empty a w r [] c = refl
  only-empty a w r (t ∷ ts) c = unacknowledged_elsewhere κ a w r t ts c ∙ sym (ne_eqb (length (t ∷ ts)) 0 (λ p. omega arith))
