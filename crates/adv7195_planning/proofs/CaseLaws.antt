-- What planning answers, case by case in the checking order. Assumes nothing.
use mathlib.Core.Path.{◌≡◌, refl, ap₂, ◌∙◌}
use mathlib.Core.Bool.{Bool, true, false, false≢true}
use mathlib.Core.List.{List, [], ◌∷◌, ◌++◌}
use Prim.Native.Nat.{ℕ}
use lib.Dec.{eqb}
use lib.IntN.{ℤ}
use lib.ListN.{length}
use borrow.Author.Tests.{eq-eqb, ne_eqb, eqb-true}
use Rattle.refusals.specs.Verdict.{Verdict, refused_at, after}
use Rattle.refusals.specs.Order.{first_of, places_at}
use Rattle.refusals.proofs.OrderLaws.{first-append}
use Rattle.bus.specs.Address.{address_right}
use Rattle.planning.specs.Plan.{Counts, counts_of, packing_of}
use Rattle.planning.proofs.AnswerLaws.{by_room_lem}
use Rattle.adv7195_bus.specs.Kind.{register_count}
use Rattle.adv7195_settings.specs.Numbers.{number_count}
use Rattle.adv7195_settings.specs.Rows.{setting_row, order, check_of}
use Rattle.adv7195_settings.proofs.PlaceLaws.{rows_alike, setting_refusal}
use Rattle.adv7195_planning.specs.Planning.{list_of, row_planned, plan_order, planning_of}

-- the settings are never refused for the room
pub other_row : (zs : List ℤ) (n f : ℕ) → check_of zs ≡ refused_at n f → eqb n 10 ≡ false
other_row zs n f e = by (eqb n 10) refl
  where
    by : (b : Bool) → eqb n 10 ≡ b → eqb n 10 ≡ false
    by true t = absurd (false≢true (rw (eqb-true n 10 t) at (setting_refusal zs n f e)))
    by false t = t

module _ (image : List ℕ) (zs : List ℤ) (address room : ℕ) where
  -- row n holds at field f of the call
  abbrev row : ℕ → ℕ → Bool
  row = row_planned image zs address room

  -- at a field it is the settings'
  same_row : (n f : ℕ) → eqb f 0 ≡ false → row n f ≡ setting_row zs n f
  unfolding row_planned
  same_row n f e = rw e

  -- the row of the room alone
  room_then : first_of row (places_at (10 ∷ []) 0) (counts_of (list_of image zs)) ≡ packing_of (list_of image zs) room
  unfolding first_of places_at row_planned
  room_then = by_room_lem (list_of image zs) room

  -- the settings' rows, and then the room's
  settings_then : first_of row (order ++ places_at (10 ∷ []) 0) (counts_of (list_of image zs)) ≡ after (check_of zs) (packing_of (list_of image zs) room)
  unfolding check_of
  settings_then =
      first-append row order (places_at (10 ∷ []) 0) (counts_of (list_of image zs))
      ∙ ap₂ (λ (v : Verdict (Unit {0})) (w : Verdict Counts). after v w) (rows_alike row (setting_row zs) same_row) room_then

  -- ---- the cases

  -- row 1: the image isn't 40 bytes
  pub wrong_length : (length image ≡ register_count → ⊥) → planning_of image zs address room ≡ refused_at 1 0
  unfolding planning_of plan_order places_at first_of row_planned
  wrong_length h = rw (ne_eqb (length image) register_count h)

  module _ (h : length image ≡ register_count) where
    -- row 2: the address
    pub wrong_address : address_right address ≡ false → planning_of image zs address room ≡ refused_at 2 0
    unfolding planning_of plan_order places_at first_of row_planned
    wrong_address e = rw (eq-eqb (length image) register_count h, e)

    module _ (e : address_right address ≡ true) where
      -- row 3 at field 0: the settings aren't 58 numbers
      pub wrong_count : (length zs ≡ number_count → ⊥) → planning_of image zs address room ≡ refused_at 3 0
      unfolding planning_of plan_order places_at first_of row_planned
      wrong_count c = rw (eq-eqb (length image) register_count h, e, ne_eqb (length zs) number_count c)

      -- the settings, and then the room
      pub right-count : length zs ≡ number_count → planning_of image zs address room ≡ after (check_of zs) (packing_of (list_of image zs) room)
      unfolding planning_of plan_order places_at first_of row_planned
      right-count c = rw (eq-eqb (length image) register_count h, e, eq-eqb (length zs) number_count c) settings_then
