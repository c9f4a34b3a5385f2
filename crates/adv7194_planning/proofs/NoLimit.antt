-- With the limit at 54 planning answers what a planner that knows no limit does. Assumes nothing.
use mathlib.Core.Path.{◌≡◌, refl, sym, ap₂, ◌∙◌, fun_ext}
use mathlib.Core.Bool.{Bool, true, false}
use mathlib.Core.List.{List}
use Prim.Native.Nat.{ℕ, ◌^◌, ◌<◌}
use lib.Dec.{eqb}
use lib.IntN.{ℤ}
use lib.ListN.{length, get_or}
use borrow.Author.Tests.{eqb-true, eqb-false, ne_eqb}
use Rattle.refusals.specs.Verdict.{refused_at}
use Rattle.refusals.specs.Order.{places_at, first_of}
use Rattle.bus.specs.Transactions.{Transaction}
use Rattle.planning.specs.Plan.{counts_of}
use Rattle.adv7194_bus.specs.Kind.{register_count}
use Rattle.adv7194_bus.specs.Limit.{no_limit}
use Rattle.adv7194_bus.specs.declared.board.Board.{Board}
use Rattle.adv7194_least.specs.Aim.{aim_of}
use Rattle.adv7194_least.proofs.WantedChange.{settings_change}
use Rattle.adv7194_least.proofs.Joined.{plan-unlimited}
use Rattle.adv7194_planning.specs.Rows.{list_of, row_planned, plan_order}
use Rattle.adv7194_planning.specs.Planning.{planning_of}
use Rattle.adv7194_planning.specs.NoLimit.{joined_list, row_no_limit, planning_no_limit}
use Rattle.adv7194_planning.proofs.CaseLaws.{wrong_length}

module _ (b : Board) (zs : List ℤ) (bytes : (r : ℕ) → get_or b.registers r 0 < 2 ^ 8) (address room : ℕ) where
  -- an image that isn't 54 bytes is refused by both
  other_length : (length b.registers ≡ register_count → ⊥) → planning_no_limit b zs address room ≡ refused_at 1 0
  unfolding planning_no_limit plan_order places_at first_of
  other_length h = rw (ne_eqb (length b.registers) register_count h)

  module _ (h : length b.registers ≡ register_count) where
    -- the lists are one
    same-list : list_of b zs no_limit ≡ joined_list b zs
    unfolding list_of
    same-list = plan-unlimited (aim_of b zs no_limit) (settings_change b zs no_limit (record { size = h; bytes = bytes }) refl) refl

    -- and so are the rows
    same_row : (n f : ℕ) → row_planned b zs address no_limit room n f ≡ row_no_limit b zs address room n f
    unfolding row_planned
    same_row n f = rw same-list

    same_answer : planning_of b zs address no_limit room ≡ planning_no_limit b zs address room
    unfolding planning_of planning_no_limit
    same_answer =
        ap₂ (λ (rows : ℕ → ℕ → Bool) (ts : List Transaction). first_of rows plan_order (counts_of ts)) (fun_ext (λ n. fun_ext (same_row n))) same-list

  -- the theorem
  pub no_limit_lem : planning_of b zs address no_limit room ≡ planning_no_limit b zs address room
  no_limit_lem = split (eqb (length b.registers) register_count) refl
    where
      split : (x : Bool) → eqb (length b.registers) register_count ≡ x → planning_of b zs address no_limit room ≡ planning_no_limit b zs address room
      split true e = same_answer (eqb-true (length b.registers) register_count e)
      split false e =
          let h = eqb-false (length b.registers) register_count e in
          wrong_length b zs address no_limit room h ∙ sym (other_length h)
