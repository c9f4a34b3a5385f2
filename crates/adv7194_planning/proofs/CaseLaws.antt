-- What planning answers and leaves, case by case in the checking order. Assumes nothing.
use mathlib.Core.Path.{◌≡◌, refl, sym, ap, ◌∙◌}
use mathlib.Core.Bool.{Bool, true, false, cond, not, ◌&&◌}
use mathlib.Core.List.{List, [], ◌∷◌, ◌++◌, flat_map}
use Prim.Native.Nat.{ℕ, ◌≤◌, ◌<◌}
use lib.Dec.{T, eqb, ltb}
use lib.IntN.{ℤ}
use lib.ListN.{length, drop}
use borrow.Author.Tests.{eq-eqb, ne_eqb, lt-ltb, le-ltb, not-true}
use Rattle.bits.proofs.FlagLaws.{first, second, holds, both_true}
use Rattle.refusals.specs.Verdict.{Verdict, good, refused_at, after}
use Rattle.refusals.specs.Order.{Place, first_of, places_at, places_in}
use Rattle.refusals.proofs.OrderLaws.{first-append}
use Rattle.refusals.proofs.PlaceLaws.{all_pass, same_first}
use Rattle.packing.specs.Packing.{packed}
use Rattle.planning.specs.Plan.{Counts, counts_of, packed_left}
use Rattle.adv7194_bus.specs.Kind.{register_count}
use Rattle.bus.specs.Address.{address_right}
use Rattle.adv7194_bus.specs.Limit.{limit_right}
use Rattle.adv7194_bus.specs.declared.board.Board.{Board}
use Rattle.adv7194_table.specs.Fields.{number_count, timing, output, picture, dnr}
use Rattle.adv7194_table.specs.Table.{table, order_of}
use Rattle.adv7194_table.specs.Registers.{field_among, lowest_in, lowest_field}
use Rattle.adv7194_settings.specs.Known.{fixes_some}
use Rattle.adv7194_settings.specs.Order.{order}
use Rattle.adv7194_settings.specs.Rows.{row_holds, check_of}
use Rattle.adv7194_planning.specs.Rows.{list_of, row_planned, plan_order}
use Rattle.adv7194_planning.specs.Planning.{planning_of, plan_left}
use Rattle.adv7194_settings.proofs.Names.{unknown}

-- what is checked after the settings: row 11 at each field, then the room
abbrev pub last_checks : List Place
last_checks = places_in (λ f. 11 ∷ []) (order_of table) ++ places_at (10 ∷ []) 0

-- ---- the settings' rows

-- a place that planning judges by the settings alone: it is at a field, and its row is neither the room's nor the unknown registers'
abbrev pub by_settings : ℕ → ℕ → Bool
by_settings n f = not (eqb n 10) && (not (eqb n 11) && not (eqb f 0))

-- those of the settings' checking order are such
pub order_by_settings : all_pass by_settings order ≡ true
unfolding order places_in places_at order_of table timing output picture dnr flat_map
order_by_settings = refl

-- ---- the unknown registers' row

-- register r is not known and fixed only in part
abbrev pub unfixed : Board → List ℤ → ℕ → Bool
unfixed b zs r = unknown b r && fixes_some zs r

-- the lowest field that has such a register, or 0
abbrev pub lowest_unfixed : Board → List ℤ → ℕ
lowest_unfixed b zs = lowest_field (unfixed b zs)

-- some numbers are fields'
abbrev pub all_fields : List ℕ → Bool
all_fields [] = true
all_fields (f ∷ fs) = not (eqb f 0) && all_fields fs

-- those of the table are
pub table-fields : T (all_fields (order_of table))
unfolding order_of table timing output picture dnr
table-fields = tt

module _ (b : Board) (zs : List ℤ) (address limit room : ℕ) where
  -- a row holds of what is handed to planning where it holds of the settings
  same_row : (n f : ℕ) → by_settings n f ≡ true → row_planned b zs address limit room n f ≡ row_holds zs n f
  unfolding row_planned
  same_row n f t =
      let q = both_true (not (eqb n 11)) (not (eqb f 0)) (both_true (not (eqb n 10)) (not (eqb n 11) && not (eqb f 0)) t).1 in
      rw (not-true (eqb f 0) q.1, not-true (eqb n 11) q.0)

  -- so the settings' checking order answers what it does of the settings
  pub same_check : first_of (row_planned b zs address limit room) order (tt {0}) ≡ check_of zs
  unfolding check_of
  same_check = same_first by_settings (row_planned b zs address limit room) (row_holds zs) same_row order (tt {0}) order_by_settings

  -- row 11 is given at the lowest field that has such a register
  pub by_register : (fs : List ℕ) → T (all_fields fs) → (let f = lowest_in (unfixed b zs) fs in
      first_of (row_planned b zs address limit room) (places_in (λ f. 11 ∷ []) fs) (tt {0}) ≡ cond (eqb f 0) (good tt) (refused_at 11 f))
  unfolding first_of places_in places_at row_planned lowest_in flat_map
  by_register [] t = refl
  by_register (f ∷ fs) t =
      by (field_among (unfixed b zs) f) refl (not-true (eqb f 0) (holds (not (eqb f 0)) (first (not (eqb f 0)) (all_fields fs) t)))
      (by_register fs (second (not (eqb f 0)) (all_fields fs) t))
    where
      by : (x : Bool) → field_among (unfixed b zs) f ≡ x → eqb f 0 ≡ false
          → (let g = lowest_in (unfixed b zs) fs in
          first_of (row_planned b zs address limit room) (places_in (λ f. 11 ∷ []) fs) (tt {0}) ≡ cond (eqb g 0) (good tt) (refused_at 11 g))
          → (let g = lowest_in (unfixed b zs) (f ∷ fs) in
          first_of (row_planned b zs address limit room) (places_in (λ f. 11 ∷ []) (f ∷ fs)) (tt {0}) ≡ cond (eqb g 0) (good tt) (refused_at 11 g))
      by true p e ih = rw (p, e)
      by false p e ih = rw (p, e) ih

  -- ---- the cases

  -- row 10, or the numbers of the list
  abbrev by_room : Verdict Counts
  by_room = cond (ltb room (length (packed (list_of b zs limit)))) (refused_at 10 0) (good (counts_of (list_of b zs limit)))

  -- what is answered of settings that pass the check: rows 11 and 10
  abbrev pub last_verdict : Verdict Counts
  last_verdict = first_of (row_planned b zs address limit room) last_checks (counts_of (list_of b zs limit))

  last_is : last_verdict ≡ after (cond (eqb (lowest_unfixed b zs) 0) (good (tt {0})) (refused_at 11 (lowest_unfixed b zs))) by_room
  unfolding first_of row_planned places_at
  last_is =
      first-append (row_planned b zs address limit room) (places_in (λ f. 11 ∷ []) (order_of table)) (places_at (10 ∷ []) 0) (counts_of (list_of b zs limit))
      ∙ ap (λ (v : Verdict (Unit {0})). after v by_room) (by_register (order_of table) table-fields)

  -- row 11: an unknown register is fixed only in part
  pub wrong_register : (lowest_unfixed b zs ≡ 0 → ⊥) → last_verdict ≡ refused_at 11 (lowest_unfixed b zs)
  wrong_register h = last_is ∙ rw (ne_eqb (lowest_unfixed b zs) 0 h)

  module _ (u : lowest_unfixed b zs ≡ 0) where
    -- the room is left to judge
    by_room_lem : last_verdict ≡ by_room
    by_room_lem = last_is ∙ rw (eq-eqb (lowest_unfixed b zs) 0 u)

    -- row 10: the lent plan is shorter than the packed plan
    pub wrong_room : room < length (packed (list_of b zs limit)) → last_verdict ≡ refused_at 10 0
    wrong_room l = by_room_lem ∙ rw (lt-ltb room (length (packed (list_of b zs limit))) l)

    -- no row holds
    pub no_row : length (packed (list_of b zs limit)) ≤ room → last_verdict ≡ good (counts_of (list_of b zs limit))
    no_row l = by_room_lem ∙ rw (le-ltb room (length (packed (list_of b zs limit))) l)

  -- the settings' rows, and then those
  settings_then : first_of (row_planned b zs address limit room) (order ++ last_checks) (counts_of (list_of b zs limit)) ≡ after (check_of zs) last_verdict
  settings_then =
      first-append (row_planned b zs address limit room) order last_checks (counts_of (list_of b zs limit))
      ∙ ap (λ (v : Verdict (Unit {0})). after v last_verdict) same_check

  -- row 1: the image isn't 54 bytes
  pub wrong_length : (length b.registers ≡ register_count → ⊥) → planning_of b zs address limit room ≡ refused_at 1 0
  unfolding planning_of plan_order places_at first_of row_planned
  wrong_length h = rw (ne_eqb (length b.registers) register_count h)

  module _ (h : length b.registers ≡ register_count) where
    -- row 2: the address
    pub wrong_address : address_right address ≡ false → planning_of b zs address limit room ≡ refused_at 2 0
    unfolding planning_of plan_order places_at first_of row_planned
    wrong_address e = rw (eq-eqb (length b.registers) register_count h, e)

    module _ (e : address_right address ≡ true) where
      -- row 3 at field 0: the limit
      pub wrong_limit : limit_right limit ≡ false → planning_of b zs address limit room ≡ refused_at 3 0
      unfolding planning_of plan_order places_at first_of row_planned
      wrong_limit l = rw (eq-eqb (length b.registers) register_count h, e, l)

      module _ (l : limit_right limit ≡ true) where
        -- and: the settings aren't 49 numbers
        pub wrong_count : (length zs ≡ number_count → ⊥) → planning_of b zs address limit room ≡ refused_at 3 0
        unfolding planning_of plan_order places_at first_of row_planned
        wrong_count c = rw (eq-eqb (length b.registers) register_count h, e, l, ne_eqb (length zs) number_count c)

        module _ (c : length zs ≡ number_count) where
          -- the settings are left to judge, and then rows 11 and 10
          right_so_far : planning_of b zs address limit room ≡ after (check_of zs) last_verdict
          unfolding planning_of plan_order places_at first_of row_planned
          right_so_far = rw (eq-eqb (length b.registers) register_count h, e, l, eq-eqb (length zs) number_count c) settings_then

          -- rows 3 to 7: the settings
          pub wrong_settings : (n f : ℕ) → check_of zs ≡ refused_at n f → planning_of b zs address limit room ≡ refused_at n f
          wrong_settings n f k = right_so_far ∙ ap (λ (v : Verdict (Unit {0})). after v last_verdict) k

          -- rows 11 and 10 are left to judge
          pub passed : check_of zs ≡ good tt → planning_of b zs address limit room ≡ last_verdict
          passed k = right_so_far ∙ ap (λ (v : Verdict (Unit {0})). after v last_verdict) k

-- ---- what is left

module _ (b : Board) (zs : List ℤ) (address limit : ℕ) (plan : List ℕ) where
  -- a refusal leaves the lent plan
  pub refuse : (n f : ℕ) → planning_of b zs address limit (length plan) ≡ refused_at n f → plan ≡ plan_left b zs address limit plan
  refuse n f e = sym (ap (packed_left (list_of b zs limit) plan) e)

  -- a plan leaves its packed bytes and what was past them
  pub accept : planning_of b zs address limit (length plan) ≡ good (counts_of (list_of b zs limit))
      → plan_left b zs address limit plan ≡ packed (list_of b zs limit) ++ drop (length (packed (list_of b zs limit))) plan
  accept e = ap (packed_left (list_of b zs limit) plan) e
