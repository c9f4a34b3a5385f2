-- Where nothing is needed the plan is empty, and its packing is the byte 00. Assumes nothing.
use mathlib.Core.Path.{◌≡◌, refl, sym, ap, ◌∙◌}
use mathlib.Core.Bool.{Bool, true, false, cond, false≢true}
use mathlib.Core.List.{[], ◌∷◌}
use Prim.Native.Nat.{ℕ}
use Rattle.packing.specs.Packing.{packed}
use Rattle.packing.proofs.PackedLaws.{nothing as nothing-packed}
use Rattle.adv7194_bus.specs.Kind.{register_count}
use Rattle.adv7194_bus.specs.Board.{knows}
use Rattle.least_cost.specs.Plan.{best, plan}
use Rattle.least_cost.proofs.Nothing.{scan_nothing}
use Rattle.adv7194_least.specs.Aim.{Aim, must}
use Rattle.adv7194_least.specs.Plan.{in_word, needed, task_for, task, byte_of, plan_of}
use Rattle.bus.proofs.RegisterLaws.{no_difference}

-- nothing is needed where the board is as wanted, and knows the registers that are fixed
pub none-must : (a : Aim) → a.board.registers ≡ a.wanted → ((r : ℕ) → a.fixes r ≡ true → knows a.board r ≡ true) → (r : ℕ) → must a r ≡ false
none-must a e k r = by (knows a.board r) refl (a.fixes r) refl
  where
    by : (b : Bool) → knows a.board r ≡ b → (f : Bool) → a.fixes r ≡ f → must a r ≡ false
    by true p f q = rw (p, ← e) (no_difference a.board.registers r)
    by false p true q = absurd (false≢true (sym p ∙ k r q))
    by false p false q = rw (p, q)

module _ (a : Aim) (right : (r : ℕ) → must a r ≡ false) where
  -- no register is needed
  none_needed : (r : ℕ) → needed a r ≡ false
  none_needed r = simp (right 0x0c, right 0x0d, right 0x0e, right 0x0f, right r) (either (in_word r))
    where
      either : (b : Bool) → cond b false false ≡ false
      either true = refl
      either false = refl

  -- where no register must be written the plan is empty
  pub plan-empty : plan_of a ≡ []
  unfolding plan_of plan task_for
  plan-empty = scan_nothing (task a) (best (task a)) (byte_of a) none_needed register_count 0

  -- and its packing is 00
  pub packed-empty : packed (plan_of a) ≡ 0x00 ∷ []
  packed-empty = ap packed plan-empty ∙ nothing-packed
