-- Demands 1, 2 and 3 of whatever planning answers and leaves. Assumes nothing.
use mathlib.Core.Path.{◌≡◌, sym, ap, ◌∙◌, subst}
use mathlib.Core.Bool.{not}
use mathlib.Core.List.{List}
use Prim.Native.Nat.{ℕ, ◌^◌, ◌≤◌, ◌<◌}
use native.Mathlib.Omega.{arith}
use lib.IntN.{ℤ}
use lib.ListN.{length, get_or, take}
use lib.Dec.{T, eqb}
use Rattle.refusals.specs.Verdict.{Verdict, refused_at}
use Rattle.refusals.specs.Order.{Exactly}
use Rattle.refusals.proofs.OrderLaws.{exactly}
use Rattle.packing.specs.Packing.{packed, behind}
use Rattle.unpacking.specs.Unpacking.{CountedBy}
use Rattle.planning.specs.Plan.{Counts, counts_of, packed_left, done}
use Rattle.planning.proofs.AnswerLaws.{left_packed}
use Rattle.adv7194_bus.specs.declared.board.Board.{Board}
use Rattle.adv7194_settings.specs.Wanted.{wanted_by}
use Rattle.adv7194_settings.specs.Demand.{Demanded}
use Rattle.adv7194_settings.proofs.DemandLaws.{demanded}
use Rattle.adv7194_least.specs.Aim.{aim_of}
use Rattle.adv7194_least.specs.Change.{Change, Told}
use Rattle.adv7194_least.specs.Played.{Played}
use Rattle.adv7194_least.specs.Demands.{Least, First, Only, most_bytes, wide_limit, wide_bytes}
use Rattle.adv7194_least.proofs.WantedChange.{settings_change, settings_told}
use Rattle.adv7194_least.proofs.PackedPlan.{plan-counted}
use Rattle.adv7194_least.proofs.PlayedPlan.{plan_played}
use Rattle.adv7194_least.proofs.Costs.{plan-least, plan-first}
use Rattle.adv7194_least.proofs.Joined.{plan-only}
use Rattle.adv7194_least.proofs.Room.{plan-room, wide_room}
use Rattle.adv7194_planning.specs.Rows.{list_of, row_planned, plan_order}
use Rattle.adv7194_planning.specs.Planning.{planning_of, plan_left}
use Rattle.adv7194_planning.proofs.CaseLaws.{unfixed, refuse}
use Rattle.adv7194_planning.proofs.Outcomes.{none-among, Passed, Outcome, early, short, planned, outcome}

-- all that planning promises of an answer, and of what it leaves of the lent plan
abbrev pub Clauses : Board → List ℤ → ℕ → ℕ → List ℕ → List ℕ → Verdict Counts → Type 0
Clauses board zs address limit plan after v =
    record {
      answer : v ≡ planning_of board zs address limit (length plan);
      memory : after ≡ plan_left board zs address limit plan;
      counted : (l t b : ℕ) → v ≡ done l t b → CountedBy behind (take l after) l t b;
      demanded : (l t b : ℕ) → v ≡ done l t b → Demanded board.registers zs (wanted_by board.registers zs);
      played : (l t b : ℕ) → v ≡ done l t b → Played (aim_of board zs limit) (take l after);
      least : (l t b : ℕ) → v ≡ done l t b → Least (aim_of board zs limit) t b;
      first : (l t b : ℕ) → v ≡ done l t b → First (aim_of board zs limit) (list_of board zs limit);
      only : (l t b : ℕ) → v ≡ done l t b → Only (aim_of board zs limit) (list_of board zs limit);
      room : (f : ℕ) → v ≡ refused_at 10 f → (length plan < most_bytes) × (wide_limit ≤ limit → length plan < wide_bytes);
      judged : Exactly (row_planned board zs address limit (length plan)) plan_order (counts_of (list_of board zs limit)) v;
    }

module _ (board : Board) (zs : List ℤ) (limit room : ℕ) where
  -- an answered plan: all before the room has passed, and the numbers are the list's
  is_planned : (v : Verdict Counts) → Outcome board zs limit room v → (l t b : ℕ) → v ≡ done l t b
      → Passed board zs limit × (counts_of (list_of board zs limit) ≡ record { length = l; transactions = t; bus_bytes = b })
  is_planned _ (early h) l t b e = let z : ◌≡◌ {A = ℕ} 0 1 = cc in absurd (omega arith)
  is_planned _ (short p h) l t b e = let z : ◌≡◌ {A = ℕ} 0 1 = cc in absurd (omega arith)
  is_planned _ (planned p) l t b e = (p, cc)

  -- where the room is refused, it is too short for the list
  is-short : (v : Verdict Counts) → Outcome board zs limit room v → (f : ℕ) → v ≡ refused_at 10 f
      → Passed board zs limit × (room < length (packed (list_of board zs limit)))
  is-short _ (early {n} h) f e = let z : n ≡ 10 = cc in absurd (subst (λ (k : ℕ). T (not (eqb k 10))) z h)
  is-short _ (short p h) f e = (p, h)
  is-short _ (planned p) f e = let z : ◌≡◌ {A = ℕ} 0 1 = cc in absurd (omega arith)

module _ (board : Board) (zs : List ℤ) (limit : ℕ) (bytes : (r : ℕ) → get_or board.registers r 0 < 2 ^ 8) where
  -- what settings mean is a change of the board
  pub change : Passed board zs limit → Change (aim_of board zs limit)
  change p = settings_change board zs limit (record { size = p.long; bytes = bytes }) p.limited

  -- in which every register with a field is known or fixed
  pub told : Passed board zs limit → Told (aim_of board zs limit)
  told p = settings_told board zs limit (record { size = p.long; bytes = bytes }) (none-among (unfixed board zs) p.fixed)

  module _ (address : ℕ) (plan after : List ℕ) (v : Verdict Counts) (answer : v ≡ planning_of board zs address limit (length plan))
      (memory : after ≡ plan_left board zs address limit plan) where
    came : Outcome board zs limit (length plan) v
    came = subst (Outcome board zs limit (length plan)) (sym answer) (outcome board zs address limit (length plan))

    module _ (l t b : ℕ) (e : v ≡ done l t b) where
      answered : Passed board zs limit × (counts_of (list_of board zs limit) ≡ record { length = l; transactions = t; bus_bytes = b })
      answered = is_planned board zs limit (length plan) v came l t b e

      -- the bytes answered are the packed plan
      left : take l after ≡ packed (list_of board zs limit)
      left =
          let list = list_of board zs limit in
          left_packed list plan after l t b answered.1 (memory ∙ ap (packed_left list plan) (sym answer ∙ e))

      -- the numbers are those of the list that the bytes unpack to
      pub counted : CountedBy behind (take l after) l t b
      unfolding list_of
      counted =
          subst (λ (n : Counts). CountedBy behind (take l after) n.length n.transactions n.bus_bytes) answered.1
          (rw left (plan-counted (aim_of board zs limit) (change answered.0)))

      -- demand 2: the wanted image, bit by bit
      pub wanted : Demanded board.registers zs (wanted_by board.registers zs)
      wanted = demanded board.registers zs answered.0.long

      -- and that the plan leads to it
      pub played : Played (aim_of board zs limit) (take l after)
      unfolding list_of
      played = rw left (plan_played (aim_of board zs limit) (change answered.0))

      -- demand 3
      pub least : Least (aim_of board zs limit) t b
      unfolding list_of
      least =
          subst (λ (n : Counts). Least (aim_of board zs limit) n.transactions n.bus_bytes) answered.1
          (plan-least (aim_of board zs limit) (change answered.0))

      pub first : First (aim_of board zs limit) (list_of board zs limit)
      unfolding list_of
      first = plan-first (aim_of board zs limit) (change answered.0)

      pub only : Only (aim_of board zs limit) (list_of board zs limit)
      unfolding list_of
      only = plan-only (aim_of board zs limit) (change answered.0)

    -- a lent plan that is too short is shorter than any plan needs, and with a wide limit than any plan needs then
    pub room : (f : ℕ) → v ≡ refused_at 10 f → (length plan < most_bytes) × (wide_limit ≤ limit → length plan < wide_bytes)
    unfolding list_of
    room f e =
        let q = is-short board zs limit (length plan) v came f e in (
          omega (arith, q.1, plan-room (aim_of board zs limit) (change q.0) (told q.0)),
          λ w. omega (arith, q.1, wide_room (aim_of board zs limit) (change q.0) (told q.0) w),
        )

    -- each row is given exactly when
    judged : Exactly (row_planned board zs address limit (length plan)) plan_order (counts_of (list_of board zs limit)) v
    unfolding planning_of
    judged = exactly (row_planned board zs address limit (length plan)) plan_order (counts_of (list_of board zs limit)) answer

    -- all that planning promises
    pub clauses : Clauses board zs address limit plan after v
    clauses = record {
      answer = answer;
      memory = memory;
      counted = counted;
      demanded = wanted;
      played = played;
      least = least;
      first = first;
      only = only;
      room = room;
      judged = judged;
    }

  -- a refusal leaves the lent plan
  pub refusal : (address : ℕ) (plan : List ℕ) (n f : ℕ) → planning_of board zs address limit (length plan) ≡ refused_at n f
      → Clauses board zs address limit plan plan (refused_at n f)
  refusal address plan n f e = clauses address plan plan (refused_at n f) (sym e) (refuse board zs address limit plan n f e)
