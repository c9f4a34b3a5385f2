-- What was checked of a board decides what planning answers, and where nothing is at fault the aim of the maps is the settings'. Assumes nothing.
use Rattle.std.proofs.Common.{◌≡◌, ℕ, List, sym, ap, ◌∙◌}
use lib.IntN.{ℤ}
use Rattle.bits.specs.Maps.{has}
use Rattle.refusals.specs.Verdict.{Verdict, good}
use Rattle.adv7194_bus.specs.declared.board.Board.{Board}
use Rattle.adv7194_bus.specs.Board.{board_of}
use Rattle.adv7194_settings.specs.Known.{fixes_all}
use Rattle.adv7194_least.specs.Aim.{aim_of}
use Rattle.adv7194_planning.specs.Aims.{aim_by}
use Rattle.adv7194_planning.specs.Checks.{checked_image}
use Rattle.adv7194_planning.proofs.MapPlan.{same_aim}
use Rattle.adv7194_planning.proofs.CheckLaws.{verdict, Cleared, cleared, image-is}

module _ (b : Board) (image : List ℕ) (known : ℕ) (zs : List ℤ) (limit : ℕ) (is : b ≡ board_of image known) where
  -- a verdict on the registers of the board that was made is one on the board
  pub decided : (address room : ℕ) (v : Verdict (Unit {0})) → v ≡ verdict (board_of b.registers known) zs address limit room
      → v ≡ verdict (board_of image known) zs address limit room
  decided address room v e = e ∙ ap (λ (x : Board). verdict (board_of x.registers known) zs address limit room) is

  module _ (e : (address room : ℕ) → good tt ≡ verdict (board_of b.registers known) zs address limit room) where
    -- the limit is right and the settings pass
    pub passed : Cleared zs limit
    passed = cleared (board_of image known) zs 0 limit 0 (sym (decided 0 0 (good tt) (e 0 0)))

    -- the aim of the map of fixed registers is the settings'
    pub aim_is : (wanted : List ℕ) (fixed : ℕ) → wanted ≡ checked_image b.registers zs limit → ((i : ℕ) → has fixed i ≡ fixes_all zs i)
        → aim_by b wanted fixed limit ≡ aim_of (board_of image known) zs limit
    aim_is wanted fixed w f =
        ap (λ (x : Board). aim_by x wanted fixed limit) is
        ∙ same_aim (board_of image known) zs wanted fixed limit
        (w ∙ ap (λ (x : Board). checked_image x.registers zs limit) is ∙ image-is image zs limit passed.limited passed.passing.size) f
