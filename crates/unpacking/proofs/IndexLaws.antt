-- A transaction by its index: what one transaction more changes, and data written at the front of memory. Assumes nothing.
use mathlib.Core.Path.{◌≡◌, refl, sym, ap, ◌∙◌}
use mathlib.Core.Bool.{Bool, true, false, cond}
use mathlib.Core.Option.{some}
use mathlib.Core.Option.{Option as LibOption}
use mathlib.Core.List.{List, [], ◌∷◌, ◌++◌}
use Prim.Native.Nat.{ℕ, zero, suc, ◌+◌, ◌^◌, ◌≤◌, ◌<◌}
use native.Mathlib.Nat.{zero-add}
use native.Mathlib.Omega.{arith}
use lib.Dec.{leb}
use lib.ListN.{length, drop, get_or, get_elem?}
use lib.Seq.{sets, sets-eq}
use borrow.Author.Tests.{le-leb, lt-leb}
use Rattle.bits.proofs.ByteLaws.{first_bytes-length}
use Rattle.std.specs.Prelude.{Option, Some, None, Ok}
use Rattle.refusals.specs.Refusal.{Judged, accepted, refused}
use Rattle.bus.specs.Transactions.{Transaction, size}
use Rattle.unpacking.specs.declared.steps.Order.{Order}
use Rattle.unpacking.specs.declared.steps.Cursor.{Cursor}
use Rattle.unpacking.specs.declared.steps.Transaction.{Transaction as Found}
use Rattle.unpacking.specs.Places.{left_at}
use Rattle.unpacking.specs.Steps.{beginning, transaction_at}
use Rattle.unpacking.specs.Indexed.{with_room, transaction_of, looked_up, found_as, FoundPlaced}
use Rattle.unpacking.proofs.StepLaws.{Went}
use Rattle.unpacking.proofs.Walking.{Passed, passed_begins, passed_goes}

-- the last one
pub last_index : (ts : List Transaction) (t : Transaction) → get_elem? (ts ++ (t ∷ [])) (length ts) ≡ some t
last_index [] t = refl
last_index (u ∷ ts) t = last_index ts t

-- any other index
pub other_index : (ts : List Transaction) (t : Transaction) (index : ℕ) → (length ts ≡ index → ⊥) → get_elem? (ts ++ (t ∷ [])) index ≡ get_elem? ts index
other_index [] t zero h = absurd (h refl)
other_index [] t (suc index) h = refl
other_index (u ∷ ts) t zero h = refl
other_index (u ∷ ts) t (suc index) h = other_index ts t index (λ e. h (ap suc e))

-- data written at the front
pub sets_front : (bs l : List ℕ) → length bs ≤ length l → sets l 0 bs ≡ bs ++ drop (length bs) l
sets_front bs l h = sets-eq bs l 0 (omega arith) ∙ ap (λ (k : ℕ). bs ++ drop k l) (zero-add (length bs))

-- some transactions were passed, so many; of them the one with the index was remembered
pub record Looking (plan : List ℕ) (order : Order) (index : ℕ) (c : Cursor) (found : Option Found) (i : ℕ) : Type 0 where
  pub passed : Passed plan order c i
  pub is : found_as plan (Ok found) ≡ accepted (get_elem? passed.done index)
  pub placed : FoundPlaced plan (Ok found)

module _ {plan : List ℕ} {order : Order} {index : ℕ} {c : Cursor} {found : Option Found} {i : ℕ} (k : Looking plan order index c found i)
    (t : Found) (g : Went plan c t.subaddress t.count t.«data» t.after) where
  -- the next one is it
  pub looking_here : i ≡ index → Looking plan order index t.after (Some t) (i + 1)
  unfolding passed_goes
  looking_here e = record {
    passed = passed_goes k.passed g;
    is = sym (ap accepted (ap (get_elem? (k.passed.done ++ (transaction_at plan t.subaddress t.count t.«data» ∷ []))) (sym e ∙ k.passed.counts)
        ∙ last_index k.passed.done _));
    placed = (g.placed, g.room);
  }

  -- it isn't
  pub looking_on : (i ≡ index → ⊥) → Looking plan order index t.after found (i + 1)
  unfolding passed_goes
  looking_on h = record {
    passed = passed_goes k.passed g;
    is = k.is ∙ sym (ap accepted (other_index k.passed.done (transaction_at plan t.subaddress t.count t.«data») index (λ e. h (k.passed.counts ∙ e))));
    placed = k.placed;
  }

-- none was
pub looking_begins : (plan : List ℕ) (order : Order) (index : ℕ) (c : Cursor) → c ≡ beginning plan order → ((i : ℕ) → get_or plan i 0 < 2 ^ 8)
    → Looking plan order index c None 0
unfolding passed_begins
looking_begins plan order index c e bytes = record { passed = passed_begins plan order c e bytes; is = refl; placed = tt }

-- ---- what is answered, by what was found

looked-up : (j : Judged (List Transaction)) (index room : ℕ) (o : LibOption Transaction) → accepted o ≡ looked_up j index → transaction_of j index room ≡ with_room room o
looked-up (accepted ts) index room o e = cc
looked-up (refused n) index room o e = absurd cc

module _ (plan : List ℕ) (j : Judged (List Transaction)) (index room : ℕ) (t : Found) (e : found_as plan (Ok (Some t)) ≡ looked_up j index) where
  -- the transaction found
  abbrev pub found : Transaction
  found = transaction_at plan t.subaddress t.count t.«data»

  pub found_size : size found ≡ t.count
  found_size = first_bytes-length t.count (left_at plan t.«data»)

  by_room_lem : (b : Bool) → leb (size found) room ≡ b → transaction_of j index room ≡ cond b (accepted found) (refused 10)
  by_room_lem b f = looked-up j index room (some found) e ∙ ap (λ (x : Bool). cond x (accepted found) (refused 10)) f

  -- there is no room for its data
  pub no_room : room < t.count → transaction_of j index room ≡ refused 10
  no_room h = by_room_lem false (lt-leb (size found) room (omega (arith, found_size)))

  -- there is
  pub with_found : t.count ≤ room → transaction_of j index room ≡ accepted found
  with_found h = by_room_lem true (le-leb (size found) room (omega (arith, found_size)))
