-- Where the checks find no fault, the answer is true of the register, and none earlier in the order is. Assumes nothing.
use mathlib.Core.Path.{◌≡◌, refl, subst}
use mathlib.Core.Bool.{Bool, true, false, not, ◌||◌}
use mathlib.Core.List.{List}
use Prim.Native.Nat.{ℕ, ◌^◌, ◌<◌}
use lib.Dec.{eqb}
use lib.IntN.{ℤ}
use lib.ListN.{length, get_or}
use borrow.Author.Tests.{eqb-true, not-false}
use Rattle.refusals.specs.Verdict.{good}
use Rattle.refusals.specs.Order.{places_at, NoneHolds}
use Rattle.refusals.proofs.OrderLaws.{good_none}
use Rattle.adv7194_bus.specs.Limit.{limit_right}
use Rattle.adv7194_bus.specs.declared.board.Board.{Board}
use Rattle.adv7194_table.specs.Fields.{number_count}
use Rattle.adv7194_least.specs.Aim.{aim_of}
use Rattle.adv7194_planning.specs.Rows.{list_of, row_planned}
use Rattle.adv7194_reasons.specs.First.{FirstTrue}
use Rattle.adv7194_reasons.specs.Reasons.{Reason, holds, answers}
use Rattle.adv7194_reasons.specs.Why.{why_order, row_why, reason_in, why_of}
use Rattle.adv7194_reasons.proofs.SomeAnswer.{settings_answer}

-- an answer about register r is the first true one
abbrev pub TrueReason : Board → List ℤ → ℕ → ℕ → Reason → Type 0
TrueReason b zs limit r k = FirstTrue (holds (aim_of b zs limit) (list_of b zs limit) r) (answers (aim_of b zs limit) r) k

module _ (b : Board) (zs : List ℤ) (limit r : ℕ) (bytes : (i : ℕ) → get_or b.registers i 0 < 2 ^ 8) where
  -- the reason is, where no check finds a fault
  reason_true : NoneHolds (row_why b zs limit) why_order → TrueReason b zs limit r (reason_in b zs limit r)
  unfolding why_order places_at row_planned list_of
  reason_true n =
      settings_answer b zs limit r (record { size = eqb-true _ _ (not-false _ n.0); bytes = bytes })
      (not-false _ (neither (not (limit_right limit)) (not (eqb (length zs) number_count)) n.1.0))
    where
      neither : (x y : Bool) → (x || y) ≡ false → x ≡ false
      neither true y e = e
      neither false y e = refl

  -- so is what is answered
  pub why_true : (k : Reason) → why_of b zs limit r ≡ good k → TrueReason b zs limit r k
  unfolding why_of
  why_true k e =
      let q = good_none (row_why b zs limit) why_order (reason_in b zs limit r) k e in
      subst (TrueReason b zs limit r) q.0 (reason_true q.1)
