-- What planning the house setting answers and leaves is what a planner of its list does. Assumes nothing.
use mathlib.Core.Path.{◌≡◌, sym, ap, ◌∙◌, subst}
use mathlib.Core.List.{List}
use Prim.Native.Nat.{ℕ, ◌^◌, ◌<◌}
use native.Mathlib.Omega.{arith}
use lib.ListN.{length, get_or}
use Rattle.refusals.specs.Refusal.{accepted}
use Rattle.refusals.specs.Verdict.{Verdict, good}
use Rattle.bus.specs.Transactions.{Transaction}
use Rattle.packing.specs.Packing.{packed}
use Rattle.unpacking.specs.Unpacking.{unpack}
use Rattle.planning.specs.Plan.{Counts, counts_of, packed_left}
use Rattle.answer_listing.proofs.AnswerLaws.{Plans}
use Rattle.adv7194_bus.specs.Kind.{register_count}
use Rattle.adv7194_bus.specs.Kind.{board_address}
use Rattle.adv7194_bus.specs.Limit.{no_limit}
use Rattle.adv7194_settings.specs.House.{house}
use Rattle.adv7194_least.specs.Aim.{aim_of}
use Rattle.adv7194_least.proofs.PackedPlan.{plan_unpacks}
use Rattle.adv7194_planning.specs.Rows.{list_of}
use Rattle.adv7194_planning.specs.Planning.{planning_of, plan_left}
use Rattle.adv7194_planning.proofs.Outcomes.{Passed, Outcome, early, short, planned, outcome}
use Rattle.adv7194_planning.proofs.Clauses.{change}
use Rattle.house_listing.specs.HouseText.{board_in}

module _ (image plan : List ℕ) where
  -- what is planned
  abbrev list : List Transaction
  list = list_of (board_in image) house no_limit

  -- an answered plan: all before the room has passed, and the counts answered are those of the list
  sized : (v : Verdict Counts) → Outcome (board_in image) house no_limit (length plan) v → (n : Counts) → v ≡ good n
      → Passed (board_in image) house no_limit × (counts_of list ≡ n)
  sized _ (early h) n e = let z : ◌≡◌ {A = ℕ} 0 1 = cc in absurd (omega arith)
  sized _ (short p h) n e = let z : ◌≡◌ {A = ℕ} 0 1 = cc in absurd (omega arith)
  sized _ (planned p) n e = (p, cc)

  -- the list's bytes unpack to it
  unpacked : ((r : ℕ) → get_or image r 0 < 2 ^ 8) → Passed (board_in image) house no_limit → unpack (packed list) ≡ accepted list
  unfolding list_of
  unpacked bytes p = plan_unpacks (aim_of (board_in image) house no_limit) (change (board_in image) house no_limit bytes p)

  module _ (v : Verdict Counts) (answer : v ≡ planning_of (board_in image) house board_address no_limit (length plan)) where
    came : Outcome (board_in image) house no_limit (length plan) v
    came = subst (Outcome (board_in image) house no_limit (length plan)) (sym answer) (outcome (board_in image) house board_address no_limit (length plan))

    -- an image that was planned over has 54 bytes
    pub image-whole : (n : Counts) → v ≡ good n → length image ≡ register_count
    image-whole n e = (sized v came n e).0.long

    -- the house setting's planner is one of its list
    pub plans : ((r : ℕ) → get_or image r 0 < 2 ^ 8) → (after : List ℕ) → after ≡ plan_left (board_in image) house board_address no_limit plan
        → Plans list plan after v
    plans bytes after memory =
        record {
          left = memory ∙ ap (packed_left list plan) (sym answer);
          counts = λ n e. (sized v came n e).1;
          unpacks = λ n e. unpacked bytes (sized v came n e).0;
        }
