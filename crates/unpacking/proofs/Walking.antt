-- A walk through a plan by steps: the transactions passed and what is still to be unpacked are the whole. Assumes nothing.
use mathlib.Core.Path.{◌≡◌, refl, sym, ap, ◌∙◌}
use mathlib.Core.Logic.{◌⊎◌, inl, inr}
use mathlib.Core.List.{List, [], ◌∷◌, ◌++◌, append_assoc, append-nil}
use Prim.Native.Nat.{ℕ, ◌+◌, ◌^◌, ◌<◌}
use native.Mathlib.Omega.{arith}
use lib.ListN.{length, get_or, length-append}
use Rattle.bits.specs.Strings.{byte_bits}
use Rattle.bus.specs.Transactions.{Transaction}
use Rattle.refusals.specs.Refusal.{Judged, accepted, refused}
use Rattle.unpacking.specs.declared.places.Place.{Place}
use Rattle.unpacking.specs.declared.steps.Order.{Order}
use Rattle.unpacking.specs.declared.steps.Cursor.{Cursor}
use Rattle.unpacking.specs.Unpacking.{unpack_by}
use Rattle.unpacking.specs.Steps.{start_after, beginning, transaction_at}
use Rattle.unpacking.proofs.FrontLaws.{number_lt}
use Rattle.unpacking.proofs.Exact.{refused_nine}
use Rattle.unpacking.proofs.StepLaws.{rest_of, prefixed, Went, opened}

-- a list with one transaction more
pub one_more : (ts : List Transaction) (t : Transaction) → length (ts ++ (t ∷ [])) ≡ length ts + 1
one_more ts t = length-append ts (t ∷ [])

-- transactions, and then what follows them
abbrev pub joined : List Transaction → Judged (List Transaction) → Judged (List Transaction)
joined ts (accepted us) = accepted (ts ++ us)
joined ts (refused n) = refused n

-- one more
joined-more : (ts : List Transaction) (t : Transaction) (j : Judged (List Transaction)) → joined ts (prefixed t j) ≡ joined (ts ++ (t ∷ [])) j
joined-more ts t (accepted us) = ap accepted (sym (append_assoc ts (t ∷ []) us))
joined-more ts t (refused n) = refl

-- none
joined-none : (j : Judged (List Transaction)) → j ≡ joined [] j
joined-none (accepted us) = refl
joined-none (refused n) = refl

-- these transactions of the plan were passed, and the walk is at this cursor
pub record Walked (plan : List ℕ) (order : Order) (done : List Transaction) (c : Cursor) : Type 0 where
  pub whole : unpack_by (start_after order) plan ≡ joined done (rest_of plan c)
  pub few : length done + c.left < 64

-- none was
pub walk_begins : (plan : List ℕ) (order : Order) → ((i : ℕ) → get_or plan i 0 < 2 ^ 8) → Walked plan order [] (beginning plan order)
walk_begins plan order bytes =
    record {
      whole = opened plan order bytes ∙ joined-none (rest_of plan (beginning plan order));
      few = omega (arith, number_lt 6 (byte_bits plan));
    }

module _ {plan : List ℕ} {order : Order} {done : List Transaction} {c : Cursor} (w : Walked plan order done c) where
  -- one more was passed
  pub walk_goes : {subaddress count : ℕ} {first : Place} {after : Cursor} → Went plan c subaddress count first after
      → Walked plan order (done ++ (transaction_at plan subaddress count first ∷ [])) after
  walk_goes {subaddress} {count} {first} {after} g =
      let t = transaction_at plan subaddress count first in
      record {
        whole = w.whole ∙ ap (joined done) g.rest ∙ joined-more done t (rest_of plan after);
        few = omega (arith, w.few, g.left, one_more done t);
      }

  -- all were
  pub walk_ends : rest_of plan c ≡ accepted [] → unpack_by (start_after order) plan ≡ accepted done
  walk_ends e = w.whole ∙ ap (joined done) e ∙ ap accepted (append-nil done)

  -- a fault was found
  pub walk_fails : {n : ℕ} → rest_of plan c ≡ refused n → unpack_by (start_after order) plan ≡ refused n
  walk_fails e = w.whole ∙ ap (joined done) e

  -- what was passed so far is the beginning of what is accepted, unless the plan is refused
  pub walk_so_far : (unpack_by (start_after order) plan ≡ refused 9) ⊎ ((us : List Transaction) × (unpack_by (start_after order) plan ≡ accepted (done ++ us)))
  walk_so_far = go (rest_of plan c) refl
    where
      go : (j : Judged (List Transaction)) → rest_of plan c ≡ j
          → (unpack_by (start_after order) plan ≡ refused 9) ⊎ ((us : List Transaction) × (unpack_by (start_after order) plan ≡ accepted (done ++ us)))
      go (accepted us) e = inr (us, w.whole ∙ ap (joined done) e)
      go (refused n) e = let f = w.whole ∙ ap (joined done) e in inl (f ∙ ap refused (sym (refused_nine (start_after order) plan n f)))

-- some transactions were passed, so many
pub record Passed (plan : List ℕ) (order : Order) (c : Cursor) (transactions : ℕ) : Type 0 where
  pub done : List Transaction
  pub walked : Walked plan order done c
  pub counts : transactions ≡ length done

-- none was
unfoldable pub passed_begins : (plan : List ℕ) (order : Order) (c : Cursor) → c ≡ beginning plan order → ((i : ℕ) → get_or plan i 0 < 2 ^ 8) → Passed plan order c 0
passed_begins plan order c e bytes = record { done = []; walked = rw e (walk_begins plan order bytes); counts = refl }

-- one more was
unfoldable pub passed_goes : {plan : List ℕ} {order : Order} {c : Cursor} {n subaddress count : ℕ} {first : Place} {after : Cursor} → Passed plan order c n
    → Went plan c subaddress count first after → Passed plan order after (n + 1)
passed_goes {plan} {subaddress = subaddress} {count = count} {first = first} p g =
    let t = transaction_at plan subaddress count first in
    record { done = p.done ++ (t ∷ []); walked = walk_goes p.walked g; counts = ap (λ (n : ℕ). n + 1) p.counts ∙ sym (one_more p.done t) }
