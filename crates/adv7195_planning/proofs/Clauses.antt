-- Demands 1, 2 and 3 of whatever planning answers and leaves. Assumes nothing.
use mathlib.Core.Path.{◌≡◌, refl, sym, ap, ◌∙◌, subst}
use mathlib.Core.Bool.{Bool, true, false}
use mathlib.Core.List.{List}
use Prim.Native.Nat.{ℕ, ◌^◌, ◌<◌}
use native.Mathlib.Omega.{arith}
use lib.Dec.{eqb}
use lib.IntN.{ℤ}
use lib.ListN.{length, get_or, take}
use borrow.Author.Tests.{eqb-true, eqb-false, not-false}
use Rattle.refusals.specs.Verdict.{Verdict, good, refused_at, after}
use Rattle.refusals.specs.Order.{Exactly, places_at}
use Rattle.refusals.proofs.OrderLaws.{good_none, exactly}
use Rattle.bus.specs.Transactions.{bus_bytes}
use Rattle.bus.specs.Address.{address_right}
use Rattle.packing.specs.Packing.{packed, anywhere}
use Rattle.unpacking.specs.Unpacking.{CountedBy}
use Rattle.planning.specs.Plan.{Counts, counts_of, packing_of, packed_left, done}
use Rattle.planning.proofs.AnswerLaws.{refused-short, left_packed}
use Rattle.adv7195_bus.specs.Kind.{register_count}
use Rattle.adv7195_settings.specs.Numbers.{number_count}
use Rattle.adv7195_settings.specs.Wanted.{wanted_by, Demanded}
use Rattle.adv7195_settings.specs.Rows.{check_of}
use Rattle.adv7195_settings.proofs.WantedLaws.{wanted-length, wanted-bytes, wanted-kept, demanded}
use Rattle.adv7195_least.specs.Reaching.{Change}
use Rattle.adv7195_least.specs.Played.{Played}
use Rattle.adv7195_least.specs.Demands.{Least, First, most_bytes}
use Rattle.adv7195_least.proofs.Costs.{plan-least, plan-first}
use Rattle.adv7195_least.proofs.Packed.{plan-counted, plan-room}
use Rattle.adv7195_least.proofs.PlayedPlan.{plan_played}
use Rattle.adv7195_planning.specs.Planning.{list_of, row_planned, plan_order, planning_of, plan_left}
use Rattle.adv7195_planning.proofs.CaseLaws.{other_row, wrong_length, wrong_address, wrong_count, right-count}

-- all that planning promises of an answer, and of what it leaves of the lent plan
abbrev pub Clauses : List ℕ → List ℤ → ℕ → List ℕ → List ℕ → Verdict Counts → Type 0
Clauses image zs address plan left v = record {
  answer : v ≡ planning_of image zs address (length plan);
  memory : left ≡ plan_left image zs address plan;
  counted : (l t b : ℕ) → v ≡ done l t b → CountedBy anywhere (take l left) l t b;
  demanded : (l t b : ℕ) → v ≡ done l t b → Demanded image zs (wanted_by image zs);
  played : (l t b : ℕ) → v ≡ done l t b → Played image (wanted_by image zs) (take l left);
  least : (l t b : ℕ) → v ≡ done l t b → Least image (wanted_by image zs) t b;
  first : (l t b : ℕ) → v ≡ done l t b → First image (wanted_by image zs) (list_of image zs);
  room : (f : ℕ) → v ≡ refused_at 10 f → length plan < most_bytes;
  judged : Exactly (row_planned image zs address (length plan)) plan_order (counts_of (list_of image zs)) v;
}

module _ (image : List ℕ) (zs : List ℤ) (address room : ℕ) where
  -- an answered plan: the image has a byte a register, and the numbers are the list's
  planned : (n : Counts) → planning_of image zs address room ≡ good n → (counts_of (list_of image zs) ≡ n) × (length image ≡ register_count)
  unfolding planning_of plan_order places_at row_planned
  planned n e =
      let g = good_none (row_planned image zs address room) plan_order (counts_of (list_of image zs)) n e in
      (g.0, eqb-true (length image) register_count (not-false (eqb (length image) register_count) g.1.0))

  -- where the room is refused, the image has a byte a register, and the room is too short for the list
  abbrev Short : Type 0
  Short = (length image ≡ register_count) × (room < length (packed (list_of image zs)))

  short : (f : ℕ) → planning_of image zs address room ≡ refused_at 10 f → Short
  short f e = by_length (eqb (length image) register_count) refl
    where
      -- no other row is that one
      never : (n g : ℕ) → planning_of image zs address room ≡ refused_at n g → eqb n 10 ≡ false → Short
      never n g q r = let z : n ≡ 10 = cc in absurd (eqb-false n 10 r z)

      by_check : length image ≡ register_count → (v : Verdict (Unit {0})) → check_of zs ≡ v
          → planning_of image zs address room ≡ after (check_of zs) (packing_of (list_of image zs) room) → Short
      by_check h (good tt) k p =
          (h, refused-short (list_of image zs) room 10 f (sym (p ∙ ap (λ (v : Verdict (Unit {0})). after v (packing_of (list_of image zs) room)) k) ∙ e))
      by_check h (refused_at n g) k p =
          never n g (p ∙ ap (λ (v : Verdict (Unit {0})). after v (packing_of (list_of image zs) room)) k) (other_row zs n g k)

      by_count : length image ≡ register_count → address_right address ≡ true → (b : Bool) → eqb (length zs) number_count ≡ b → Short
      by_count h a true p = by_check h (check_of zs) refl (right-count image zs address room h a (eqb-true (length zs) number_count p))
      by_count h a false p = never 3 0 (wrong_count image zs address room h a (eqb-false (length zs) number_count p)) refl

      by_address : length image ≡ register_count → (b : Bool) → address_right address ≡ b → Short
      by_address h true p = by_count h p (eqb (length zs) number_count) refl
      by_address h false p = never 2 0 (wrong_address image zs address room h p) refl

      by_length : (b : Bool) → eqb (length image) register_count ≡ b → Short
      by_length true p = by_address (eqb-true (length image) register_count p) (address_right address) refl
      by_length false p = never 1 0 (wrong_length image zs address room (eqb-false (length image) register_count p)) refl

module _ (image : List ℕ) (zs : List ℤ) (bytes : (r : ℕ) → get_or image r 0 < 2 ^ 8) where
  -- what settings mean is a change of the image
  pub change : length image ≡ register_count → Change image (wanted_by image zs)
  change h = record {
    found = h;
    wants = wanted-length image zs ∙ h;
    bytes = wanted-bytes image zs bytes;
    kept = wanted-kept image zs;
  }

  module _ (address : ℕ) (plan left : List ℕ) (v : Verdict Counts) (answer : v ≡ planning_of image zs address (length plan))
      (memory : left ≡ plan_left image zs address plan) where
    module _ (l t b : ℕ) (e : v ≡ done l t b) where
      known : (counts_of (list_of image zs) ≡ record { length = l; transactions = t; bus_bytes = b }) × (length image ≡ register_count)
      known = planned image zs address (length plan) (record { length = l; transactions = t; bus_bytes = b }) (sym answer ∙ e)

      -- the bytes answered are the packed plan
      packing : take l left ≡ packed (list_of image zs)
      packing = left_packed (list_of image zs) plan left l t b known.0 (memory ∙ ap (packed_left (list_of image zs) plan) (sym answer ∙ e))

      -- the numbers are those of the list that the bytes unpack to
      counted : CountedBy anywhere (take l left) l t b
      unfolding list_of
      counted =
          subst (λ (n : Counts). CountedBy anywhere (take l left) n.length n.transactions n.bus_bytes) known.0
          (rw packing (plan-counted image (wanted_by image zs) (change known.1)))

      -- demand 2: the wanted image, bit by bit
      wanted : Demanded image zs (wanted_by image zs)
      wanted = demanded image zs known.1

      -- and that the plan leads to it
      played : Played image (wanted_by image zs) (take l left)
      unfolding list_of
      played = rw packing (plan_played image (wanted_by image zs) (change known.1))

      -- demand 3
      least : Least image (wanted_by image zs) t b
      unfolding list_of
      least = subst (λ (n : Counts). Least image (wanted_by image zs) n.transactions n.bus_bytes) known.0
          (plan-least image (wanted_by image zs) (change known.1))

      first : First image (wanted_by image zs) (list_of image zs)
      unfolding list_of
      first = plan-first image (wanted_by image zs) (change known.1)

    -- a lent plan that is too short is shorter than any plan needs
    room : (f : ℕ) → v ≡ refused_at 10 f → length plan < most_bytes
    unfolding list_of
    room f e =
        let q = short image zs address (length plan) f (sym answer ∙ e) in
        omega (arith, q.1, plan-room image (wanted_by image zs) (change q.0))

    -- each row is given exactly when
    judged : Exactly (row_planned image zs address (length plan)) plan_order (counts_of (list_of image zs)) v
    unfolding planning_of
    judged = exactly (row_planned image zs address (length plan)) plan_order (counts_of (list_of image zs)) answer

    -- all that planning promises
    pub clauses : Clauses image zs address plan left v
    clauses = record {
      answer = answer;
      memory = memory;
      counted = counted;
      demanded = wanted;
      played = played;
      least = least;
      first = first;
      room = room;
      judged = judged;
    }

  -- of a refusal
  pub refusal : (address : ℕ) (plan : List ℕ) {n f : ℕ} → planning_of image zs address (length plan) ≡ refused_at n f
      → Clauses image zs address plan plan (refused_at n f)
  refusal address plan e = clauses address plan plan _ (sym e) (sym (ap (packed_left (list_of image zs) plan) e))
