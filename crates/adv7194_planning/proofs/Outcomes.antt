-- What an answer of planning tells: a refusal before the room's, or that all before the room has passed. Assumes nothing.
use mathlib.Core.Path.{◌≡◌, refl, sym, ap, ◌∙◌, subst, subst⁻¹}
use mathlib.Core.Bool.{Bool, true, false, not, ◌&&◌}
use mathlib.Core.List.{List}
use Prim.Native.Nat.{ℕ, zero, suc, ◌+◌, ◌≤◌, ◌<◌}
use native.Mathlib.Omega.{arith}
use lib.Dec.{T, eqb, ltb}
use lib.IntN.{ℤ}
use lib.ListN.{length}
use borrow.Author.Tests.{eqb-true, eqb-false, ltb-true, ltb-false}
use Rattle.bits.proofs.FlagLaws.{both_true}
use Rattle.refusals.specs.Verdict.{Verdict, good, refused_at}
use Rattle.refusals.proofs.PlaceLaws.{refused-at}
use Rattle.packing.specs.Packing.{packed}
use Rattle.planning.specs.Plan.{Counts, counts_of}
use Rattle.adv7194_bus.specs.Kind.{register_count}
use Rattle.bus.specs.Address.{address_right}
use Rattle.adv7194_bus.specs.Limit.{limit_right}
use Rattle.adv7194_bus.specs.declared.board.Board.{Board}
use Rattle.adv7194_table.specs.Fields.{number_count}
use Rattle.adv7194_table.specs.Registers.{field_among, lowest_field, field_count}
use Rattle.adv7194_table.proofs.RegisterLaws.{lowest_from, lowest_fields, lowest_here, lowest_next}
use Rattle.adv7194_settings.specs.Order.{order}
use Rattle.adv7194_settings.specs.Rows.{row_holds, check_of}
use Rattle.adv7194_planning.specs.Rows.{list_of}
use Rattle.adv7194_planning.specs.Planning.{planning_of}
use Rattle.adv7194_planning.proofs.CaseLaws.{by_settings, order_by_settings, lowest_unfixed, wrong_length, wrong_address, wrong_limit}
use Rattle.adv7194_planning.proofs.CaseLaws.{wrong_count, wrong_settings, passed, wrong_register, wrong_room, no_row}

-- ---- the lowest field that has a register that passes a test

-- where it is none, no field has one
none_from : (P : ℕ → Bool) (k n : ℕ) → 0 < k → lowest_from P k n ≡ 0 → (f : ℕ) → k ≤ f → f < k + n → field_among P f ≡ false
none_from P k zero p e f h l = absurd (omega arith)
none_from P k (suc n) p e f h l = by (field_among P k) refl (eqb f k) refl (none_from P (suc k) n (omega arith))
  where
    by : (a : Bool) → field_among P k ≡ a → (x : Bool) → eqb f k ≡ x
        → (lowest_from P (suc k) n ≡ 0 → (f : ℕ) → suc k ≤ f → f < suc k + n → field_among P f ≡ false) → field_among P f ≡ false
    by true a x q rest = absurd (omega (arith, lowest_here P k n a))
    by false a true q rest = ap (field_among P) (eqb-true f k q) ∙ a
    by false a false q rest = let z = eqb-false f k q in rest (sym (lowest_next P k n a) ∙ e) f (omega arith) (omega arith)

pub none-among : (P : ℕ → Bool) → lowest_field P ≡ 0 → (f : ℕ) → 0 < f → f < field_count → field_among P f ≡ false
none-among P e f h l = none_from P 1 28 (omega arith) (sym (lowest_fields P) ∙ e) f (omega arith) (omega arith)

-- ---- the settings' rows

-- the settings are never refused for the room
settings_row : (zs : List ℤ) (n f : ℕ) → check_of zs ≡ refused_at n f → not (eqb n 10) ≡ true
unfolding check_of
settings_row zs n f e =
    (both_true (not (eqb n 10)) (not (eqb n 11) && not (eqb f 0)) (refused-at by_settings (row_holds zs) order n f order_by_settings e)).0

-- ---- what an answer tells

-- all before the room has passed: what is said of it below
pub record Passed (board : Board) (zs : List ℤ) (limit : ℕ) : Type 0 where
  pub long : length board.registers ≡ register_count
  pub fixed : lowest_unfixed board zs ≡ 0
  pub limited : limit_right limit ≡ true

-- a refusal before the room's, the room's, or the numbers of the list
pub data Outcome (board : Board) (zs : List ℤ) (limit room : ℕ) : Verdict Counts → Type 0 where
  early : {n f : ℕ} → T (not (eqb n 10)) → Outcome board zs limit room (refused_at n f)
  short : Passed board zs limit → room < length (packed (list_of board zs limit)) → Outcome board zs limit room (refused_at 10 0)
  planned : Passed board zs limit → Outcome board zs limit room (good (counts_of (list_of board zs limit)))

module _ (board : Board) (zs : List ℤ) (address limit room : ℕ) where
  abbrev Right : Type 0
  Right = Outcome board zs limit room (planning_of board zs address limit room)

  given : {v : Verdict Counts} → planning_of board zs address limit room ≡ v → Outcome board zs limit room v → Right
  given e o = subst⁻¹ (Outcome board zs limit room) e o

  module _ (h : length board.registers ≡ register_count) (e : address_right address ≡ true) (l : limit_right limit ≡ true)
      (c : length zs ≡ number_count) where
    by_room_lem : check_of zs ≡ good tt → lowest_unfixed board zs ≡ 0 → (x : Bool) → ltb room (length (packed (list_of board zs limit))) ≡ x → Right
    by_room_lem k u true p =
        let s = ltb-true room (length (packed (list_of board zs limit))) p in
        given (passed board zs address limit room h e l c k ∙ wrong_room board zs address limit room u s)
        (short (record { long = h; fixed = u; limited = l }) s)
    by_room_lem k u false p =
        let s = ltb-false room (length (packed (list_of board zs limit))) p in
        given (passed board zs address limit room h e l c k ∙ no_row board zs address limit room u s) (planned (record { long = h; fixed = u; limited = l }))

    by_register : check_of zs ≡ good tt → (x : Bool) → eqb (lowest_unfixed board zs) 0 ≡ x → Right
    by_register k true p = by_room_lem k (eqb-true (lowest_unfixed board zs) 0 p) (ltb room (length (packed (list_of board zs limit)))) refl
    by_register k false p =
        given (passed board zs address limit room h e l c k ∙ wrong_register board zs address limit room (eqb-false (lowest_unfixed board zs) 0 p)) (early tt)

    by_settings_lem : (v : Verdict (Unit {0})) → check_of zs ≡ v → Right
    by_settings_lem (good tt) k = by_register k (eqb (lowest_unfixed board zs) 0) refl
    by_settings_lem (refused_at n f) k =
        given (wrong_settings board zs address limit room h e l c n f k)
        (early (subst T (sym (settings_row zs n f k)) tt))

  by_count : length board.registers ≡ register_count → address_right address ≡ true → limit_right limit ≡ true
      → (x : Bool) → eqb (length zs) number_count ≡ x → Right
  by_count h e l true p = by_settings_lem h e l (eqb-true (length zs) number_count p) (check_of zs) refl
  by_count h e l false p = given (wrong_count board zs address limit room h e l (eqb-false (length zs) number_count p)) (early tt)

  by_limit : length board.registers ≡ register_count → address_right address ≡ true → (x : Bool) → limit_right limit ≡ x → Right
  by_limit h e true l = by_count h e l (eqb (length zs) number_count) refl
  by_limit h e false l = given (wrong_limit board zs address limit room h e l) (early tt)

  by_address : length board.registers ≡ register_count → (x : Bool) → address_right address ≡ x → Right
  by_address h true e = by_limit h e (limit_right limit) refl
  by_address h false e = given (wrong_address board zs address limit room h e) (early tt)

  by_length : (x : Bool) → eqb (length board.registers) register_count ≡ x → Right
  by_length true p = by_address (eqb-true (length board.registers) register_count p) (address_right address) refl
  by_length false p = given (wrong_length board zs address limit room (eqb-false (length board.registers) register_count p)) (early tt)

  -- planning's answer is one of the three
  pub outcome : Right
  outcome = by_length (eqb (length board.registers) register_count) refl
