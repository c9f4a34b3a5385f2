-- The step's definition, case by case: no place in the plan, the last transaction passed, and a transaction to come. Assumes nothing.
use mathlib.Core.Path.{◌≡◌, sym, ap, ap₂, ◌∙◌, subst}
use mathlib.Core.Bool.{Bool, true, false, cond}
use mathlib.Core.List.{List}
use Prim.Native.Nat.{ℕ, suc, ◌+◌, ◌-◌, ◌*◌, ◌≤◌, ◌<◌, zero-le}
use native.Mathlib.Omega.{arith}
use lib.Arith.{lt_of_le-ne}
use lib.ListN.{length, drop, length-drop}
use Rattle.std.specs.Prelude.{Some, None, Ok, Err}
use Rattle.bits.proofs.FlagLaws.{holds, fails}
use Rattle.refusals.specs.declared.Refusal.TheVariants.{PlanBytes}
use Rattle.unpacking.specs.declared.places.Place.{Place}
use Rattle.unpacking.specs.declared.places.PlacedHeader.{PlacedHeader}
use Rattle.unpacking.specs.declared.steps.Order.{Order}
use Rattle.unpacking.specs.declared.steps.Cursor.{Cursor}
use Rattle.unpacking.specs.declared.steps.Transaction.{Transaction as Found}
use Rattle.unpacking.specs.Places.{taken, place_after, left_at, Placed, TookHeaderAt, inside}
use Rattle.unpacking.specs.Steps.{filling, in_front, found_at, first_at, step_at, next_of}
use Rattle.unpacking.proofs.FrontLaws.{number_lt}
use Rattle.unpacking.proofs.Reader.{Front, front_facts, front_from}
use Rattle.unpacking.proofs.PlaceLaws.{inside-placed, left_at-length}

module _ (plan : List ℕ) (c : Cursor) where
  abbrev p : Place
  p = c.place

  abbrev bs : List Bool
  bs = left_at plan p

  -- by the test of its place
  by_place : (b : Bool) → inside plan p ≡ b → next_of plan c ≡ cond b (step_at p c.left c.free c.order bs) (Err PlanBytes)
  unfolding next_of
  by_place b e = ap (λ (x : Bool). cond x (step_at p c.left c.free c.order bs) (Err PlanBytes)) e

  pub outside : inside plan p ≡ false → next_of plan c ≡ Err PlanBytes
  outside e = by_place false e

  module _ (i : inside plan p ≡ true) where
    by_left : (n : ℕ) → c.left ≡ n → next_of plan c ≡ step_at p n c.free c.order bs
    by_left n l = by_place true i ∙ ap (λ (k : ℕ). step_at p k c.free c.order bs) l

    -- the last one passed
    pub at-end : (b : Bool) → c.left ≡ 0 → filling bs ≡ b → next_of plan c ≡ cond b (Ok None) (Err PlanBytes)
    at-end b l f = by_left 0 l ∙ ap (λ (x : Bool). cond x (Ok None) (Err PlanBytes)) f

    -- one to come
    pub in_front_lem : (n : ℕ) (b : Bool) → c.left ≡ suc n → in_front c.free bs ≡ b → next_of plan c ≡ cond b (Ok (Some (first_at p n c.order bs))) (Err PlanBytes)
    in_front_lem n b l f = by_left (suc n) l ∙ ap (λ (x : Bool). cond x (Ok (Some (first_at p n c.order bs))) (Err PlanBytes)) f

    -- which isn't there
    pub not_in_front : (n : ℕ) → c.left ≡ suc n → (Front c.free bs → ⊥) → next_of plan c ≡ Err PlanBytes
    not_in_front n l f = in_front_lem n false l (fails (in_front c.free bs) (λ h. f (front_facts c.free bs h)))

-- the transaction of a header that was taken
pub header_first : (plan : List ℕ) (p : Place) (r : PlacedHeader) (n : ℕ) (order : Order) → TookHeaderAt plan p r
    → found_at r.subaddress r.count r.next n order ≡ first_at p n order (left_at plan p)
header_first plan p r n order h =
    ap (λ (d : Place). found_at r.subaddress r.count d n order) h.next
    ∙ ap₂ (λ (s k : ℕ). found_at s k (place_after (taken p + 12)) n order) h.subaddress h.count

-- ---- a transaction to come: by what was read

module _ (plan : List ℕ) (c : Cursor) (i : inside plan c.place ≡ true) (more : c.left ≡ 0 → ⊥) where
  abbrev bits : List Bool
  bits = left_at plan c.place

  placed : Placed plan c.place
  placed = inside-placed plan c.place i

  turn : c.left ≡ suc (c.left - 1)
  turn = let some = lt_of_le-ne zero-le (λ z. more (sym z)) in omega (arith, some)

  faulty : (Front c.free bits → ⊥) → Err PlanBytes ≡ next_of plan c
  faulty f = sym (not_in_front plan c i (c.left - 1) turn f)

  long : length bits ≡ (length plan - c.place.at) * 8 + c.place.held
  long = left_at-length plan c.place placed

  -- the bytes are too few for a header
  pub no_header : length plan - c.place.at < 2 → Err PlanBytes ≡ next_of plan c
  no_header h = faulty (λ f. omega (arith, f.some, f.held, length-drop 12 bits, long, placed.few, h))

  module _ (r : PlacedHeader) (t : TookHeaderAt plan c.place r) where
    data_long : length (drop 12 bits) ≡ (length plan - r.next.at) * 8 + r.next.held
    data_long = sym (ap length t.rest) ∙ left_at-length plan r.next t.placed

    -- it has no data
    pub no_data : r.count ≡ 0 → Err PlanBytes ≡ next_of plan c
    no_data h = faulty (λ f. omega (arith, f.some, t.count, h))

    -- it starts below the first free register
    pub not_free : r.subaddress < c.free → Err PlanBytes ≡ next_of plan c
    not_free h = faulty (λ f. omega (arith, f.from, t.subaddress, h))

    -- the bytes are too few for its data
    pub few_data : length plan - r.next.at < r.count → Err PlanBytes ≡ next_of plan c
    few_data h = faulty (λ f. omega (arith, f.held, t.count, t.placed.few, data_long, h))

    -- its numbers are of six bits
    pub small_header : (r.subaddress < 64) × (r.count < 64)
    small_header = (subst (λ (n : ℕ). n < 64) (sym t.subaddress) (number_lt 6 bits), subst (λ (n : ℕ). n < 64) (sym t.count) (number_lt 6 (drop 6 bits)))

    -- it is there
    pub header_found : 2 ≤ length plan - c.place.at → (r.count ≡ 0 → ⊥) → c.free ≤ r.subaddress → r.count ≤ length plan - r.next.at
        → Ok (Some (found_at r.subaddress r.count r.next (c.left - 1) c.order)) ≡ next_of plan c
    header_found two some from room =
        let any = lt_of_le-ne zero-le (λ z. some (sym z)) in
        let front : Front c.free bits = record {
          long = omega (arith, two, long);
          some = omega (arith, any, t.count);
          from = omega (arith, from, t.subaddress);
          held = omega (arith, room, t.count, data_long);
        } in
        ap (λ (f : Found). Ok (Some f)) (header_first plan c.place r (c.left - 1) c.order t)
        ∙ sym (in_front_lem plan c i (c.left - 1) true turn (holds (in_front c.free bits) (front_from c.free bits front)))
