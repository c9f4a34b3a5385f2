-- What planning captions answers and leaves is what a planner of their list does. Assumes nothing.
use mathlib.Core.Path.{◌≡◌, sym, ap, ◌∙◌}
use mathlib.Core.Bool.{true}
use mathlib.Core.List.{List}
use Prim.Native.Nat.{ℕ}
use lib.IntN.{ℤ}
use lib.ListN.{length}
use borrow.Author.Tests.{not-false}
use Rattle.refusals.specs.Verdict.{Verdict, good}
use Rattle.refusals.specs.Order.{places_at}
use Rattle.refusals.proofs.OrderLaws.{good_none}
use Rattle.planning.specs.Plan.{Counts, counts_of, packed_left}
use Rattle.answer_listing.proofs.AnswerLaws.{Plans}
use Rattle.adv7194_bus.specs.Kind.{board_address}
use Rattle.adv7194_captions.specs.Pairs.{pairs_right, caption_list}
use Rattle.adv7194_captions.specs.Planning.{caption_row, caption_order, caption_planning, caption_plan_left}
use Rattle.adv7194_captions.proofs.ListLaws.{captions-unpack}

module _ (extended ordinary : List ℤ) (plan : List ℕ) where
  -- an answered plan: the counts are those of the list, and the pairs are right
  answered : (n : Counts) → caption_planning extended ordinary board_address (length plan) ≡ good n
      → (counts_of (caption_list extended ordinary) ≡ n) × (pairs_right extended ordinary ≡ true)
  unfolding caption_planning caption_order places_at caption_row
  answered n e =
      let w = good_none (caption_row extended ordinary board_address (length plan)) caption_order (counts_of (caption_list extended ordinary)) n e in
      (w.0, not-false _ w.1.1.0)

  -- the captions' planner is one of their list
  pub plans : (after : List ℕ) → after ≡ caption_plan_left extended ordinary board_address plan
      → (v : Verdict Counts) → v ≡ caption_planning extended ordinary board_address (length plan) → Plans (caption_list extended ordinary) plan after v
  plans after memory v answer =
      record {
        left = memory ∙ ap (packed_left (caption_list extended ordinary) plan) (sym answer);
        counts = λ n e. (answered n (sym answer ∙ e)).0;
        unpacks = λ n e. captions-unpack extended ordinary (answered n (sym answer ∙ e)).1;
      }
