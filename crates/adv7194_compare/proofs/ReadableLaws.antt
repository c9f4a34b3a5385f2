-- An image of which every register is known, and whether reading takes it. Assumes nothing.
use mathlib.Core.Path.{◌≡◌, refl, ap, ◌∙◌}
use mathlib.Core.Bool.{Bool, true, false, not, cond, ◌&&◌}
use mathlib.Core.List.{List}
use Prim.Native.Nat.{ℕ}
use lib.Dec.{eqb}
use lib.IntN.{ℤ}
use lib.ListN.{length}
use Rattle.std.specs.Prelude.{Result, Ok, Err}
use Rattle.std.specs.Result.{is_ok}
use Rattle.refusals.specs.declared.Fault.{Fault}
use Rattle.refusals.specs.Verdict.{Verdict, good, refused_at, left_by, verdict_as}
use Rattle.adv7194_bus.specs.Board.{board_of, all_known}
use Rattle.adv7194_table.specs.Fields.{number_count}
use Rattle.adv7194_settings.specs.Held.{settings_held}
use Rattle.adv7194_settings.specs.Rows.{judge_of}
use Rattle.adv7194_settings.specs.Reading.{read_of, read_left}
use Rattle.adv7194_settings.proofs.ReadingLaws.{read_known}
use Rattle.adv7194_compare.specs.Compare.{is_good, whole, is_taken, taken_into}

-- a function's answer is Ok where the verdict is good
pub good_ok : (r : Result (Unit {0}) Fault) → is_ok r ≡ is_good (verdict_as r)
good_ok (Ok u) = refl
good_ok (Err e) = refl

-- whether it is taken is whether reading answers good
pub taken-good : (image : List ℕ) (count : ℕ) → is_good (read_of (board_of image all_known) count) ≡ is_taken image count
taken-good image count = ap is_good (read_known image count) ∙ by (whole image) (eqb count number_count) (judge_of image)
  where
    by : (s t : Bool) (v : Verdict (Unit {0}))
        → is_good (cond (not s) (refused_at 1 0) (cond (not t) (refused_at 3 0) v)) ≡ (t && (s && is_good v))
    by false true v = refl
    by false false v = refl
    by true true v = refl
    by true false v = refl

-- the settings are left where the answer is good
left_good : (image : List ℕ) (zs : List ℤ) (v : Verdict (Unit {0})) → left_by zs (settings_held image) v ≡ cond (is_good v) (settings_held image) zs
left_good image zs (good u) = refl
left_good image zs (refused_at n f) = refl

pub taken_left : (image : List ℕ) (zs : List ℤ) → read_left (board_of image all_known) zs ≡ taken_into image zs
taken_left image zs =
    left_good image zs (read_of (board_of image all_known) (length zs))
    ∙ ap (λ (b : Bool). cond b (settings_held image) zs) (taken-good image (length zs))
