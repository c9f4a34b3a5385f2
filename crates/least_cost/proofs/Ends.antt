-- A list that holds the wanted bytes ends in them, and an ascending list holds the bytes that it ends in. Assumes nothing.
use mathlib.Core.Path.{◌≡◌, sym, subst, ap, ◌∙◌}
use mathlib.Core.Logic.{◌⊎◌, inl, inr, ⊎_elim}
use mathlib.Core.List.{List, [], ◌∷◌, flat_map}
use Prim.Native.Nat.{ℕ, ◌≤◌, ◌<◌}
use native.Mathlib.Omega.{arith}
use lib.ListN.{length, get_or}
use Rattle.bus.specs.Transactions.{Transaction, end, Touches, Touched}
use Rattle.bus.specs.Chip.{Kind, Chip}
use Rattle.bus.specs.Run.{run, list_events, after}
pub use Rattle.bus.proofs.Play.{Kept}
use Rattle.bus.proofs.Play.{touches?, run-list, touched_or_same}
use Rattle.bus.proofs.After.{next, length-next, touched-next, other_next}
use Rattle.least_cost.specs.Order.{Ascending, Holds}
use Rattle.least_cost.proofs.Spans.{ascending-past}
use Rattle.bits.specs.Lists.{Every}

module _ (κ : Kind) where
  -- a register ends in its wanted byte where a list that holds the wanted bytes touches it, or the chip had it before
  pub ends_in : (want : ℕ → ℕ) (ts : List Transaction) (c : Chip) (r : ℕ) → Every (Kept κ) ts → Every (Holds want) ts
      → r < length c.registers → Touched ts r ⊎ (get_or c.registers r 0 ≡ want r) → get_or (after κ c ts).registers r 0 ≡ want r
  unfolding run list_events flat_map
  ends_in want [] c r k h g (inl a) = absurd a
  ends_in want [] c r k h g (inr u) = u
  ends_in want (t ∷ ts) c r (k, ks) (h, hs) g s =
      ap (λ d. get_or d.registers r 0) (run-list κ κ.address c t ts)
      ∙ ends_in want ts (next κ c t) r ks hs (rw (length-next κ c t) g) (going s (touches? t r))
    where
      going : Touched (t ∷ ts) r ⊎ (get_or c.registers r 0 ≡ want r) → Touches t r ⊎ ((r < t.subaddress) ⊎ (end t ≤ r))
          → Touched ts r ⊎ (get_or (next κ c t).registers r 0 ≡ want r)
      going s (inl a) = inr (touched-next κ c t r k g a ∙ h r a)
      going (inl (inl u)) (inr (inl a)) = absurd (omega arith)
      going (inl (inl u)) (inr (inr a)) = absurd (omega arith)
      going (inl (inr u)) (inr a) = inl u
      going (inr u) (inr a) = inr (other_next κ c t r a ∙ u)

  -- what an ascending list ends in are its data
  pub ascending-holds : (ts : List Transaction) (c : Chip) (i : ℕ) → Ascending i ts → Every (Kept κ) ts → κ.count ≤ length c.registers
      → Every (Holds (λ x. get_or (after κ c ts).registers x 0)) ts
  unfolding run list_events flat_map
  ascending-holds [] c i a k g = tt
  ascending-holds (t ∷ ts) c i a (k, ks) g =
      let n = length-next κ c t in
      let e = run-list κ κ.address c t ts in (
        λ x u. sym (ap (λ d. get_or d.registers x 0) e ∙ same x u ∙ touched-next κ c t x k (omega (arith, (k x u).0)) u),
        subst (λ (d : Chip). Every (Holds (λ x. get_or d.registers x 0)) ts) (sym e) (ascending-holds ts (next κ c t) (end t) a.1 ks (omega arith)),
      )
    where
      -- the transactions after it touch none of its registers
      same : (x : ℕ) → Touches t x → get_or (after κ (next κ c t) ts).registers x 0 ≡ get_or (next κ c t).registers x 0
      same x u = ⊎_elim (λ v. absurd (ascending-past (end t) x ts a.1 u.1 v)) (λ v. v) (touched_or_same κ ts (next κ c t) x)
