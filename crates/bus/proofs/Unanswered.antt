-- At an address that is not the chip's no byte of a list is acknowledged. Assumes nothing.
use mathlib.Core.Path.{◌≡◌, refl, sym, ap, ◌∙◌}
use mathlib.Core.Logic.{◌≢◌}
use mathlib.Core.Bool.{Bool, true, false, ◌&&◌, false≢true}
use mathlib.Core.List.{List, [], ◌∷◌, ◌++◌, flat_map}
use Prim.Native.Nat.{ℕ, ◌+◌}
use borrow.Author.Tests.{ne_eqb}
use Rattle.bits.proofs.FlagLaws.{both_true}
use Rattle.bus.specs.declared.chip.Event.{Event}
use Rattle.bus.specs.declared.chip.Acknowledge.{Acknowledge}
use Rattle.bus.specs.declared.chip.Acknowledge.TheVariants.{Acknowledged, NotAcknowledged, NotAsked}
use Rattle.bus.specs.Transactions.{Transaction}
use Rattle.bus.specs.Chip.{Kind, Chip, from_master, step}
use Rattle.bus.specs.Run.{run, transaction_events, list_events}
use Rattle.bus.proofs.Play.{data_events, idle}
use Rattle.bus.proofs.Acknowledged.{and_assoc}

-- whether the chip answers an event with no acknowledge
abbrev unanswered : Acknowledge → Bool
unanswered Acknowledged = false
unanswered NotAcknowledged = true
unanswered NotAsked = true

-- whether no byte of some events was acknowledged
unfoldable none_acknowledged : Kind → Chip → List Event → Bool
none_acknowledged κ c [] = true
none_acknowledged κ c (e ∷ es) = unanswered (step κ c e).acknowledge && none_acknowledged κ (step κ c e).chip es

module _ (κ : Kind) where
  -- events one after the other
  none-append : (es fs : List Event) (c : Chip)
      → none_acknowledged κ c (es ++ fs) ≡ (none_acknowledged κ c es && none_acknowledged κ (run κ c es) fs)
  unfolding none_acknowledged run
  none-append [] fs c = refl
  none-append (e ∷ es) fs c =
      ap (λ x. unanswered (step κ c e).acknowledge && x) (none-append es fs (step κ c e).chip)
      ∙ and_assoc (unanswered (step κ c e).acknowledge) (none_acknowledged κ (step κ c e).chip es)
      (none_acknowledged κ (run κ (step κ c e).chip es) fs)

  -- so none of them was, wherever it stands
  not_answered : (x : Acknowledge) → unanswered x ≡ true → x ≢ Acknowledged
  not_answered x h e = false≢true (sym (ap unanswered e) ∙ h)

  none-at : (before : List Event) (e : Event) (rest : List Event) (c : Chip) → none_acknowledged κ c (before ++ (e ∷ rest)) ≡ true
      → (step κ (run κ c before) e).acknowledge ≢ Acknowledged
  unfolding none_acknowledged run
  none-at [] e rest c h = not_answered (step κ c e).acknowledge
      (both_true (unanswered (step κ c e).acknowledge) (none_acknowledged κ (step κ c e).chip rest) h).0
  none-at (d ∷ ds) e rest c h =
      none-at ds e rest (step κ c d).chip
      (both_true (unanswered (step κ c d).acknowledge) (none_acknowledged κ (step κ c d).chip (ds ++ (e ∷ rest))) h).1

  -- data and a stop at an idle chip
  none_data : (bs : List ℕ) (i : ℕ) (l : List ℕ) → none_acknowledged κ (idle i l) (data_events bs) ≡ true
  unfolding none_acknowledged step from_master
  none_data [] i l = refl
  none_data (b ∷ bs) i l = none_data bs i l

  module _ (a : ℕ) (w : a ≢ κ.address) (r : a ≢ κ.address + 1) where
    -- a transaction
    none_transaction : (c : Chip) (t : Transaction) → none_acknowledged κ c (transaction_events a t) ≡ true
    unfolding none_acknowledged transaction_events step from_master
    none_transaction c t = rw (ne_eqb a κ.address w, ne_eqb a (κ.address + 1) r) (none_data t.bytes c.pointer c.registers)

    -- a list
    none_list : (ts : List Transaction) (c : Chip) → none_acknowledged κ c (list_events a ts) ≡ true
    unfolding list_events flat_map none_acknowledged
    none_list [] c = refl
    none_list (t ∷ ts) c =
        none-append (transaction_events a t) (list_events a ts) c
        ∙ rw (none_transaction c t) (none_list ts (run κ c (transaction_events a t)))

    -- each of its events
    pub none_elsewhere : (ts : List Transaction) (c : Chip) (before : List Event) (e : Event) (rest : List Event)
        → list_events a ts ≡ before ++ (e ∷ rest) → (step κ (run κ c before) e).acknowledge ≢ Acknowledged
    none_elsewhere ts c before e rest p = none-at before e rest c (ap (none_acknowledged κ c) (sym p) ∙ none_list ts c)
