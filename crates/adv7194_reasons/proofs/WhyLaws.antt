-- What is answered of a register, case by case in the checking order, and all that is promised of it. Assumes nothing.
use mathlib.Core.Path.{◌≡◌, sym, ◌∙◌}
use mathlib.Core.List.{List}
use Prim.Native.Nat.{ℕ, ◌^◌, ◌<◌}
use lib.IntN.{ℤ}
use lib.ListN.{length, get_or}
use borrow.Author.Tests.{eq-eqb, ne_eqb}
use Rattle.refusals.specs.Verdict.{Verdict, good, refused_at, after}
use Rattle.refusals.specs.Order.{places_at, first_of, Exactly}
use Rattle.refusals.proofs.OrderLaws.{with_value, exactly}
use Rattle.adv7194_bus.specs.Kind.{register_count}
use Rattle.adv7194_bus.specs.Kind.{board_address}
use Rattle.adv7194_bus.specs.declared.board.Board.{Board}
use Rattle.adv7194_planning.specs.Rows.{row_planned}
use Rattle.adv7194_planning.specs.Checks.{checks}
use Rattle.adv7194_planning.proofs.CheckLaws.{verdict}
use Rattle.adv7194_reasons.specs.Reasons.{Reason}
use Rattle.adv7194_reasons.specs.Why.{why_order, row_why, reason_in, why_of}
use Rattle.adv7194_reasons.proofs.WhyTrue.{TrueReason, why_true}

module _ (b : Board) (zs : List ℤ) (limit r : ℕ) where
  -- row 1: the image isn't 54 bytes
  pub why_length : (length b.registers ≡ register_count → ⊥) → why_of b zs limit r ≡ refused_at 1 0
  unfolding why_of why_order places_at first_of row_planned
  why_length h = rw (ne_eqb (length b.registers) register_count h)

  -- what the checks that planning shares answer, and else the reason
  with-checks : first_of (row_why b zs limit) checks (reason_in b zs limit r) ≡ after (verdict b zs board_address limit 0) (good (reason_in b zs limit r))
  with-checks = sym (with_value (row_why b zs limit) checks (reason_in b zs limit r))

  pub why_checks : length b.registers ≡ register_count → why_of b zs limit r ≡ after (verdict b zs board_address limit 0) (good (reason_in b zs limit r))
  unfolding why_of why_order checks places_at first_of row_planned
  why_checks h = rw (eq-eqb (length b.registers) register_count h) with-checks

  -- all that is promised of an answer
  pub clauses : (bytes : (i : ℕ) → get_or b.registers i 0 < 2 ^ 8) {v : Verdict Reason} → v ≡ why_of b zs limit r
      → record {
        answer : v ≡ why_of b zs limit r;
        reason : (k : Reason) → v ≡ good k → TrueReason b zs limit r k;
        judged : Exactly (row_why b zs limit) why_order (reason_in b zs limit r) v;
      }
  unfolding why_of
  clauses bytes e = record {
    answer = e;
    reason = λ k q. why_true b zs limit r bytes k (sym e ∙ q);
    judged = exactly (row_why b zs limit) why_order (reason_in b zs limit r) e;
  }
