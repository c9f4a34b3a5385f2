-- What the checks between the bus address and the room answer, case by case, and that planning answers it too, and else what packing does. Assumes nothing.
use mathlib.Core.Path.{◌≡◌, refl, sym, ap, ◌∙◌}
use mathlib.Core.Bool.{Bool, true, false, cond, ◌&&◌}
use mathlib.Core.List.{List, [], ◌∷◌, ◌++◌, append_assoc}
use Prim.Native.Nat.{ℕ}
use native.Mathlib.Omega.{arith}
use lib.Dec.{eqb}
use lib.IntN.{ℤ}
use lib.ListN.{length}
use borrow.Author.Tests.{eq-eqb, ne_eqb, eqb-true, eqb-false}
use Rattle.refusals.specs.Verdict.{Verdict, good, refused_at, after}
use Rattle.refusals.specs.Order.{Place, first_of, places_at, places_in}
use Rattle.refusals.proofs.OrderLaws.{first-append}
use Rattle.planning.specs.Plan.{counts_of, packing_of}
use Rattle.planning.proofs.AnswerLaws.{by_room_lem}
use Rattle.adv7194_bus.specs.Kind.{register_count}
use Rattle.bus.specs.Address.{address_right}
use Rattle.adv7194_bus.specs.Limit.{limit_right}
use Rattle.adv7194_bus.specs.declared.board.Board.{Board}
use Rattle.adv7194_table.specs.Fields.{number_count}
use Rattle.adv7194_table.specs.Table.{table, order_of}
use Rattle.adv7194_settings.specs.Order.{order}
use Rattle.adv7194_settings.specs.Rows.{check_of}
use Rattle.adv7194_settings.specs.Wanted.{wanted_by}
use Rattle.adv7194_planning.specs.Aims.{Passing}
use Rattle.adv7194_planning.specs.Rows.{list_of, row_planned, plan_order}
use Rattle.adv7194_planning.specs.Checks.{checks, checked_image}
use Rattle.adv7194_planning.specs.Planning.{planning_of}
use Rattle.adv7194_planning.proofs.CaseLaws.{last_checks, same_check}

-- the limit is right, and the settings pass the check
pub record Cleared (zs : List ℤ) (limit : ℕ) : Type 0 where
  pub limited : limit_right limit ≡ true
  pub passing : Passing zs

-- then the image that the settings want is left
pub image-is : (image : List ℕ) (zs : List ℤ) (limit : ℕ) → limit_right limit ≡ true → length zs ≡ number_count
    → checked_image image zs limit ≡ wanted_by image zs
image-is image zs limit l c =
    ap (λ (x : Bool). cond (x && eqb (length zs) number_count) (wanted_by image zs) image) l
    ∙ ap (λ (x : Bool). cond x (wanted_by image zs) image) (eq-eqb (length zs) number_count c)

module _ (b : Board) (zs : List ℤ) (address limit room : ℕ) where
  -- a row of planning holds
  abbrev row : ℕ → ℕ → Bool
  row = row_planned b zs address limit room

  -- ---- the checks

  -- what they answer
  abbrev pub verdict : Verdict (Unit {0})
  verdict = first_of row checks (tt {0})

  -- what row 11 answers
  abbrev pub unknown_verdict : Verdict (Unit {0})
  unknown_verdict = first_of row (places_in (λ f. 11 ∷ []) (order_of table)) (tt {0})

  -- the limit
  pub check_limit : limit_right limit ≡ false → verdict ≡ refused_at 3 0
  unfolding checks places_at first_of row_planned
  check_limit l = rw l

  -- the settings' rows, and then row 11
  settings_then : first_of row (order ++ places_in (λ f. 11 ∷ []) (order_of table)) (tt {0}) ≡ after (check_of zs) unknown_verdict
  settings_then =
      first-append row order (places_in (λ f. 11 ∷ []) (order_of table)) (tt {0})
      ∙ ap (λ (v : Verdict (Unit {0})). after v unknown_verdict) (same_check b zs address limit room)

  module _ (l : limit_right limit ≡ true) where
    -- the count of the numbers
    pub check_count : (length zs ≡ number_count → ⊥) → verdict ≡ refused_at 3 0
    unfolding checks places_at first_of row_planned
    check_count c = rw (l, ne_eqb (length zs) number_count c)

    -- the settings, and then row 11
    pub check_settings : length zs ≡ number_count → verdict ≡ after (check_of zs) unknown_verdict
    unfolding checks places_at first_of row_planned
    check_settings c = rw (l, eq-eqb (length zs) number_count c) settings_then

  -- where nothing is at fault the limit is right and the settings pass
  pub cleared : verdict ≡ good tt → Cleared zs limit
  cleared e = by_limit (limit_right limit) refl
    where
      never : (n f : ℕ) → verdict ≡ refused_at n f → Cleared zs limit
      never n f q = let z : ◌≡◌ {A = ℕ} 0 1 = cc in absurd (omega arith)

      by_check : (l : limit_right limit ≡ true) (c : length zs ≡ number_count) (v : Verdict (Unit {0})) → check_of zs ≡ v → Cleared zs limit
      by_check l c (good tt) k = record { limited = l; passing = record { size = c; passes = k } }
      by_check l c (refused_at n f) k = never n f (check_settings l c ∙ ap (λ (v : Verdict (Unit {0})). after v unknown_verdict) k)

      by_count : limit_right limit ≡ true → (x : Bool) → eqb (length zs) number_count ≡ x → Cleared zs limit
      by_count l true p = by_check l (eqb-true (length zs) number_count p) (check_of zs) refl
      by_count l false p = never 3 0 (check_count l (eqb-false (length zs) number_count p))

      by_limit : (x : Bool) → limit_right limit ≡ x → Cleared zs limit
      by_limit true l = by_count l (eqb (length zs) number_count) refl
      by_limit false l = never 3 0 (check_limit l)

  -- ---- planning

  -- row 10 alone answers what packing the list does
  room-is : first_of row (places_at (10 ∷ []) 0) (counts_of (list_of b zs limit)) ≡ packing_of (list_of b zs limit) room
  unfolding first_of places_at row_planned
  room-is = by_room_lem (list_of b zs limit) room

  -- the places from the limit on are the checks and then the room
  then_room : first_of row (places_at (3 ∷ []) 0 ++ (order ++ last_checks)) (counts_of (list_of b zs limit)) ≡ after verdict (packing_of (list_of b zs limit) room)
  unfolding checks places_at
  then_room =
      ap (λ (ps : List Place). first_of row (places_at (3 ∷ []) 0 ++ ps) (counts_of (list_of b zs limit)))
      (sym (append_assoc order (places_in (λ f. 11 ∷ []) (order_of table)) (places_at (10 ∷ []) 0)))
      ∙ first-append row checks (places_at (10 ∷ []) 0) (counts_of (list_of b zs limit)) ∙ ap (after verdict) room-is

  -- so planning answers what the checks do, and where they find no fault what packing does
  pub planning_is : length b.registers ≡ register_count → address_right address ≡ true
      → planning_of b zs address limit room ≡ after verdict (packing_of (list_of b zs limit) room)
  unfolding planning_of plan_order places_at first_of row_planned
  planning_is h e = rw (eq-eqb (length b.registers) register_count h, e) then_room
