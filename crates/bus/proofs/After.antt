-- What one transaction leaves in a chip's registers, and how many there are after a list. Assumes nothing.
use mathlib.Core.Path.{◌≡◌, refl, sym, ap, ◌∙◌}
use mathlib.Core.Logic.{◌⊎◌, inl, inr}
use mathlib.Core.Bool.{Bool, true, false, cond}
use mathlib.Core.List.{List, [], ◌∷◌, flat_map}
use Prim.Native.Nat.{ℕ, suc, ◌+◌, ◌-◌, ◌≤◌, ◌<◌}
use native.Mathlib.Omega.{arith}
use lib.Dec.{ltb}
use lib.ListN.{length, get_or, set, length-set}
use lib.Seq.{get_or-set_same}
use borrow.Author.Tests.{lt-ltb, ltb-true, ltb-false}
use Rattle.bus.specs.Transactions.{Transaction, end, Touches}
use Rattle.bus.specs.Chip.{Kind, Chip}
use Rattle.bus.specs.Run.{run, transaction_events, list_events, after}
use Rattle.bus.proofs.Play.{store, Kept, stores, run_transaction, stores_other, run-list}

-- the first of some registers, or a later one
pub later : (i x : ℕ) → i ≤ x → (x ≡ i) ⊎ (suc i ≤ x)
later i x h = split (ltb i x) refl
  where
    split : (b : Bool) → ltb i x ≡ b → (x ≡ i) ⊎ (suc i ≤ x)
    split true e = inr (ltb-true i x e)
    split false e = let d = ltb-false i x e in inl (omega arith)

-- a later datum, and the first
pub get_d_later : (b : ℕ) (bs : List ℕ) (i x : ℕ) → suc i ≤ x → get_or (b ∷ bs) (x - i) 0 ≡ get_or bs (x - suc i) 0
get_d_later b bs i x h = let e : x - i ≡ suc (x - suc i) = omega arith in rw e

pub get_d_here : (b : ℕ) (bs : List ℕ) (i : ℕ) → get_or (b ∷ bs) (i - i) 0 ≡ b
get_d_here b bs i = let e : i - i ≡ 0 = omega arith in rw e

module _ (κ : Kind) where
  length-store : (l : List ℕ) (i b : ℕ) → length (store κ.keeps l i b) ≡ length l
  length-store l i b = split (κ.keeps i)
    where
      split : (t : Bool) → length (cond t (set l i b) l) ≡ length l
      split true = length-set l i b
      split false = refl

  pub length_stores : (bs : List ℕ) (i : ℕ) (l : List ℕ) → length (stores κ l i bs) ≡ length l
  unfolding stores
  length_stores [] i l = refl
  length_stores (b ∷ bs) i l = split (ltb i κ.count) (length_stores bs (suc i) (store κ.keeps l i b))
    where
      split : (t : Bool) → length (stores κ (store κ.keeps l i b) (suc i) bs) ≡ length (store κ.keeps l i b)
          → length (cond t (stores κ (store κ.keeps l i b) (suc i) bs) l) ≡ length l
      split true ih = ih ∙ length-store l i b
      split false ih = refl

  -- a register that the bytes are for
  pub stores_in : (bs : List ℕ) (i : ℕ) (l : List ℕ) (r : ℕ) → i + length bs ≤ κ.count
      → ((x : ℕ) → i ≤ x → x < i + length bs → κ.keeps x ≡ true)
      → r < length l → i ≤ r → r < i + length bs → get_or (stores κ l i bs) r 0 ≡ get_or bs (r - i) 0
  unfolding stores
  stores_in [] i l r h keeps g a b = absurd (omega arith)
  stores_in (d ∷ ds) i l r h keeps g a b =
      let n = length-store l i d in
      rw (lt-ltb i κ.count (omega arith)) (split (later i r a)
      (λ c. stores_in ds (suc i) (store κ.keeps l i d) r (omega arith) (λ x u v. keeps x (omega arith) (omega arith)) (omega arith) c (omega arith)))
    where
      split : (r ≡ i) ⊎ (suc i ≤ r)
          → (suc i ≤ r → get_or (stores κ (store κ.keeps l i d) (suc i) ds) r 0 ≡ get_or ds (r - suc i) 0)
          → get_or (stores κ (store κ.keeps l i d) (suc i) ds) r 0 ≡ get_or (d ∷ ds) (r - i) 0
      split (inl e) ih =
          stores_other κ ds (suc i) (store κ.keeps l i d) r (inl (omega arith))
          ∙ rw (keeps i (omega arith) (omega arith)) (rw e (get_or-set_same l i d 0 (omega arith) ∙ sym (get_d_here d ds i)))
      split (inr c) ih = ih c ∙ sym (get_d_later d ds i r c)

  -- the chip after one transaction
  abbrev pub next : Chip → Transaction → Chip
  next c t = run κ c (transaction_events κ.address t)

  pub length-next : (c : Chip) (t : Transaction) → length (next c t).registers ≡ length c.registers
  length-next c t = rw (run_transaction κ c t) (length_stores t.bytes t.subaddress c.registers)

  -- a register that a transaction touches has its byte after it
  pub touched-next : (c : Chip) (t : Transaction) (r : ℕ) → Kept κ t → r < length c.registers → Touches t r
      → get_or (next c t).registers r 0 ≡ get_or t.bytes (r - t.subaddress) 0
  touched-next c t r h g a =
      let last = (h (end t - 1) (omega arith)).0 in
      rw (run_transaction κ c t) (stores_in t.bytes t.subaddress c.registers r (omega arith) (λ x v w. (h x (v, w)).1) g a.0 a.1)

  -- another register keeps its own
  pub other_next : (c : Chip) (t : Transaction) (r : ℕ) → (r < t.subaddress) ⊎ (end t ≤ r)
      → get_or (next c t).registers r 0 ≡ get_or c.registers r 0
  other_next c t r a = rw (run_transaction κ c t) (stores_other κ t.bytes t.subaddress c.registers r a)

  pub length-after : (ts : List Transaction) (c : Chip) → length (after κ c ts).registers ≡ length c.registers
  unfolding run list_events flat_map
  length-after [] c = refl
  length-after (t ∷ ts) c =
      ap (λ d. length d.registers) (run-list κ κ.address c t ts) ∙ length-after ts (next c t) ∙ length-next c t
