-- All that planning captions promises, of whatever it answers and leaves. Assumes nothing.
use mathlib.Core.Path.{◌≡◌, refl, sym, ap, ◌∙◌}
use mathlib.Core.Bool.{Bool, true, false}
use mathlib.Core.List.{List}
use Prim.Native.Nat.{ℕ, ◌<◌}
use native.Mathlib.Omega.{arith}
use lib.IntN.{ℤ}
use lib.ListN.{length, take}
use borrow.Author.Tests.{not-false}
use Rattle.refusals.specs.Verdict.{Verdict, good, refused_at}
use Rattle.refusals.specs.Order.{Exactly, places_at}
use Rattle.refusals.proofs.OrderLaws.{good_none, exactly}
use Rattle.packing.specs.Packing.{packed}
use Rattle.planning.specs.Plan.{Counts, counts_of, packed_left, done}
use Rattle.planning.proofs.AnswerLaws.{refused-short, left_packed}
use Rattle.bus.specs.Address.{address_right}
use Rattle.adv7194_captions.specs.Pairs.{pairs_right, caption_list}
use Rattle.adv7194_captions.specs.Planning.{caption_row, caption_order, caption_planning, caption_plan_left}
use Rattle.adv7194_captions.proofs.ListLaws.{captions-length}
use Rattle.adv7194_captions.proofs.RowLaws.{wrong_address, wrong_pairs, right_pairs}
use Rattle.adv7194_caption_planning.specs.Demands.{CaptionsPlayed, caption_bytes}
use Rattle.adv7194_caption_planning.proofs.PlayedLaws.{captions_played}

-- all that planning promises of an answer, and of what it leaves of the lent plan
pub record Clauses (extended ordinary : List ℤ) (address : ℕ) (plan after : List ℕ) (v : Verdict Counts) : Type 0 where
  pub answer : v ≡ caption_planning extended ordinary address (length plan)
  pub memory : after ≡ caption_plan_left extended ordinary address plan
  pub exactly : Exactly (caption_row extended ordinary address (length plan)) caption_order (counts_of (caption_list extended ordinary)) v
  pub played : (l t b : ℕ) → v ≡ done l t b → CaptionsPlayed extended ordinary (take l after)
  pub room : (f : ℕ) → v ≡ refused_at 10 f → length plan < caption_bytes

module _ (extended ordinary : List ℤ) (address room : ℕ) where
  -- the pairs of a plan that is answered are right, and its numbers are the list's
  planned : (n : Counts) → caption_planning extended ordinary address room ≡ good n
      → (counts_of (caption_list extended ordinary) ≡ n) × (pairs_right extended ordinary ≡ true)
  unfolding caption_planning caption_order places_at caption_row
  planned n e =
      let g = good_none (caption_row extended ordinary address room) caption_order (counts_of (caption_list extended ordinary)) n e in
      (g.0, not-false (pairs_right extended ordinary) g.1.1.0)

  -- where the room is refused, it is too short for the list of right pairs
  too_short : (f : ℕ) → caption_planning extended ordinary address room ≡ refused_at 10 f → room < caption_bytes
  too_short f e = by (address_right address) refl (pairs_right extended ordinary) refl
    where
      by : (a : Bool) → address_right address ≡ a → (p : Bool) → pairs_right extended ordinary ≡ p → room < caption_bytes
      by false x p y = let w = wrong_address extended ordinary address room x in let z : ◌≡◌ {A = ℕ} 2 10 = cc in absurd (omega arith)
      by true x false y = let w = wrong_pairs extended ordinary address room x y in let z : ◌≡◌ {A = ℕ} 3 10 = cc in absurd (omega arith)
      by true x true y =
          let q = refused-short (caption_list extended ordinary) room 10 f (sym (right_pairs extended ordinary address room x y) ∙ e) in
          omega (arith, captions-length extended ordinary y)

module _ (extended ordinary : List ℤ) (address : ℕ) (plan after : List ℕ) (v : Verdict Counts)
    (answer : v ≡ caption_planning extended ordinary address (length plan)) (memory : after ≡ caption_plan_left extended ordinary address plan) where
  -- the bytes answered are the packed list
  left : (l t b : ℕ) → v ≡ done l t b → take l after ≡ packed (caption_list extended ordinary)
  left l t b e =
      let list = caption_list extended ordinary in
      let k = (planned extended ordinary address (length plan) (record { length = l; transactions = t; bus_bytes = b }) (sym answer ∙ e)).0 in
      left_packed list plan after l t b k (memory ∙ ap (packed_left list plan) (sym answer ∙ e))

  -- what the bytes do
  captions : (l t b : ℕ) → v ≡ done l t b → CaptionsPlayed extended ordinary (take l after)
  captions l t b e =
      let k = planned extended ordinary address (length plan) (record { length = l; transactions = t; bus_bytes = b }) (sym answer ∙ e) in
      rw (left l t b e) (captions_played extended ordinary k.1)

  pub clauses : Clauses extended ordinary address plan after v
  unfolding caption_planning
  clauses = record {
    answer = answer;
    memory = memory;
    exactly = exactly (caption_row extended ordinary address (length plan)) caption_order (counts_of (caption_list extended ordinary)) answer;
    played = captions;
    room = λ f k. too_short extended ordinary address (length plan) f (sym answer ∙ k);
  }
