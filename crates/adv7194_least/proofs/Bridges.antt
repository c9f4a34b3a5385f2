-- The plan touches no register but those that have a field or a must-be-zero bit, and 03, 04 and 1C between them. Assumes nothing.
use mathlib.Core.Path.{◌≡◌, sym, ◌∙◌}
use mathlib.Core.Logic.{◌⊎◌, inl, inr, ⊎_elim}
use mathlib.Core.Bool.{Bool, true, false, ◌&&◌, ◌||◌, or-true}
use mathlib.Core.List.{List, [], ◌∷◌}
use Prim.Native.Nat.{ℕ, zero, suc, ◌+◌, ◌-◌, ◌≤◌, ◌<◌}
use native.Mathlib.Omega.{arith}
use lib.Dec.{T}
use Rattle.rounding.proofs.First.{flag}
use Rattle.rounding.proofs.Range.{below, below_at, imp, imp→, T→true}
use Rattle.adv7194_table.specs.Fields.{timing, output, picture, dnr}
use Rattle.adv7194_table.specs.Table.{table}
use Rattle.adv7194_table.specs.Masks.{mask_where, field_mask, zero_mask}
use Rattle.bus.specs.Transactions.{Transaction, size, end, Touches, Touched}
use Rattle.adv7194_bus.specs.Kind.{register_count}
use Rattle.least_cost.proofs.Attained.{Right}
use Rattle.least_cost.proofs.Near.{near, AllNear, plan-near}
use Rattle.adv7194_least.specs.Aim.{Aim, must}
use Rattle.adv7194_least.specs.Change.{settable, bridge, Change}
use Rattle.adv7194_least.specs.Plan.{may, needed, task_for, task, byte_of, plan_of}
use Rattle.bus.proofs.RegisterLaws.{among?, among_in}
use Rattle.adv7194_least.proofs.TaskLaws.{need_other}
use Rattle.adv7194_least.proofs.Differing.{must-settable, permits}
use Rattle.adv7194_least.proofs.Keeping.{right-fits}
use Rattle.adv7194_least.proofs.Reached.{task-sound, task-later, plan-right}
use Rattle.bits.specs.Lists.{Every}

-- ---- the registers that a plan can touch

-- register r has a field or a must-be-zero bit, or is a bridge
unfoldable pub reachable : ℕ → Bool
reachable r = settable r || bridge r

-- one test over the masks: where one of the next three registers has such a bit, the next one is reachable
abbrev next_test : ℕ → Bool
next_test r = imp (reachable r && near settable (suc r)) (reachable (suc r))

-- it passes
steps : T (below next_test register_count)
unfolding reachable settable field_mask zero_mask mask_where table timing output picture dnr
steps = tt

-- what follows a reachable register in a transaction is reachable
next_reachable : (r : ℕ) → r < register_count → reachable r ≡ true → near settable (suc r) ≡ true → reachable (suc r) ≡ true
next_reachable r h a b =
    T→true (reachable (suc r)) (imp→ (reachable r && near settable (suc r)) (reachable (suc r)) (below_at next_test register_count steps r h) (rw (a, b)))

-- a register with such a bit is reachable
settable_reachable : (r : ℕ) → settable r ≡ true → reachable r ≡ true
unfolding reachable
settable_reachable r e = rw e

-- every register of a transaction is reachable
abbrev pub Reachable : Transaction → Type 0
Reachable t = (x : ℕ) → Touches t x → reachable x ≡ true

-- what is reachable and has no such bit is one of the three
not_settable : (r : ℕ) → settable r ≡ false → reachable r ≡ true → bridge r ≡ true
unfolding reachable
not_settable r e h = rw e at h

-- what is near a needed register is near one that has such a bit
near-more : (f g : ℕ → Bool) → ((x : ℕ) → f x ≡ true → g x ≡ true) → (x : ℕ) → near f x ≡ true → near g x ≡ true
near-more f g h x = split (flag (f x)) (flag (f (suc x)))
  where
    split : (f x ≡ true) ⊎ (f x ≡ false) → (f (suc x) ≡ true) ⊎ (f (suc x) ≡ false) → near f x ≡ true → near g x ≡ true
    split (inl a) b n = rw (h x a)
    split (inr a) (inl b) n = rw (h (suc x) b) (or-true (g x))
    split (inr a) (inr b) n =
        let c : f (suc (suc x)) ≡ true = sym (rw (a, b)) ∙ n in
        rw (h (suc (suc x)) c, or-true (g (suc x))) (or-true (g x))

module _ (a : Aim) (χ : Change a) where
  -- a needed register has such a bit
  needed-settable : (x : ℕ) → needed a x ≡ true → settable x ≡ true
  needed-settable x n =
      ⊎_elim
      (λ u. (χ.fixed x (χ.word x (among_in 0x0c 0x0f x u.0 u.1))).1)
      (λ u. (must-settable a χ x (sym (need_other (must a) x u) ∙ n)).1) (among? 0x0c 0x0f x)

  -- every register of a transaction of the plan is reachable
  transaction_reachable : (t : Transaction) → Right (task a) (byte_of a) t → AllNear (needed a) t → Reachable t
  unfolding task_for
  transaction_reachable t h n x u = rw (← at) (by_step (x - t.subaddress) (omega arith))
    where
      at : t.subaddress + (x - t.subaddress) ≡ x
      at = omega arith

      ends : end t ≤ register_count
      ends = (right-fits a.limit (must a) (may a) (permits a χ) (byte_of a) 0 t h).ends

      by_step : (d : ℕ) → d < size t → reachable (t.subaddress + d) ≡ true
      by_step zero g =
          let e : t.subaddress + 0 ≡ t.subaddress = omega arith in
          rw e (settable_reachable t.subaddress (needed-settable t.subaddress h.first))
      by_step (suc d) g =
          let e : t.subaddress + suc d ≡ suc (t.subaddress + d) = omega arith in
          let m = ends in
          rw e (next_reachable (t.subaddress + d) (omega arith) (by_step d (omega arith))
          (near-more (needed a) settable needed-settable (suc (t.subaddress + d)) (n (suc (t.subaddress + d)) (omega arith) (omega arith))))

  -- of all its transactions
  all_reachable : (ts : List Transaction) → Every (Right (task a) (byte_of a)) ts → Every (AllNear (needed a)) ts
      → Every Reachable ts
  all_reachable [] h n = tt
  all_reachable (t ∷ ts) h n = (transaction_reachable t h.0 n.0, all_reachable ts h.1 n.1)

  -- the plan goes on only near needed registers
  all_near : Every (AllNear (needed a)) (plan_of a)
  unfolding plan_of task_for
  all_near = plan-near (task a) (task-sound a χ) (task-later a χ) (byte_of a)

  -- so the plan touches only reachable registers
  pub plan_reachable : Every Reachable (plan_of a)
  plan_reachable = all_reachable (plan_of a) (plan-right a χ) all_near

  -- the plan touches only registers that have a field or a must-be-zero bit, and 03, 04 and 1C
  pub plan_bridges : (r : ℕ) → Touched (plan_of a) r → (settable r ≡ true) ⊎ (bridge r ≡ true)
  plan_bridges r u = ⊎_elim inl (λ e. inr (other e)) (flag (settable r))
    where
      touched : (ts : List Transaction) → Every Reachable ts → Touched ts r → reachable r ≡ true
      touched [] h v = elim v [ ]
      touched (t ∷ ts) h (inl v) = h.0 r v
      touched (t ∷ ts) h (inr v) = touched ts h.1 v

      other : settable r ≡ false → bridge r ≡ true
      other e = not_settable r e (touched (plan_of a) plan_reachable u)
