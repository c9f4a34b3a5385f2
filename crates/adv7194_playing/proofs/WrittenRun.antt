-- A plan that is accepted, sent to the chip's own address, is acknowledged throughout; the chip then holds what writing its data over the registers gives,
-- and these are known. Assumes nothing.
use mathlib.Core.Path.{◌≡◌, refl, ap₂, ◌∙◌}
use mathlib.Core.Bool.{Bool, true}
use mathlib.Core.List.{List}
use Prim.Native.Nat.{ℕ}
use native.Mathlib.Omega.{arith}
use lib.ListN.{length}
use Rattle.refusals.specs.Refusal.{Judged, accepted, refused}
use Rattle.refusals.specs.Verdict.{Verdict, good}
use Rattle.bus.specs.Transactions.{Transaction}
use Rattle.bus.specs.Address.{address_right}
use Rattle.unpacking.specs.Unpacking.{unpack, counted}
use Rattle.playing.specs.Playing.{judged_if, play_of}
use Rattle.playing.proofs.Judging.{was_taken}
use Rattle.playing.proofs.Faults.{Left}
use Rattle.playing.proofs.Played.{played_own}
use Rattle.adv7194_bus.specs.Kind.{register_count}
use Rattle.adv7194_bus.specs.declared.board.Board.{Board}
use Rattle.adv7194_bus.specs.Board.{board_of}
use Rattle.adv7194_playing.specs.declared.PlanKind.{PlanKind}
use Rattle.adv7194_playing.specs.Playing.{takes, call_of, played_board}
use Rattle.adv7194_playing.specs.Written.{board_written, Written}
use Rattle.adv7194_playing.proofs.KindLaws.{all-kept}

-- what is answered, and the board that is left
pub as_left : {test : List Transaction → Bool} {b : Board} {used own : ℕ} {plan : List ℕ} {v : Verdict Bool} {registers : List ℕ} {map : ℕ}
    → Left (call_of test b used own plan) b.known v registers map
    → (v ≡ play_of (call_of test b used own plan)) × (board_of registers map ≡ played_board test b used own plan)
as_left l = (l.answer, ap₂ board_of l.stored l.marked)

module _ (kind : PlanKind) (b : Board) (used own : ℕ) (same : used ≡ own) (plan : List ℕ) (h : length b.registers ≡ register_count)
    (e : address_right used ≡ true) (f : address_right own ≡ true) where
  -- what is accepted is acknowledged throughout, and its data are left, in registers that are known
  pub own_list : (ts : List Transaction) → judged_if (takes kind) (unpack plan) ≡ accepted ts
      → (good true ≡ play_of (call_of (takes kind) b used own plan)) × (board_written b ts ≡ played_board (takes kind) b used own plan)
  own_list ts p =
      as_left
      (played_own (call_of (takes kind) b used own plan) b.known h e f same ts (all-kept own kind ts (was_taken (takes kind) (unpack plan) ts p).1) p)

  -- so playing a plan that is accepted answers, and leaves what was written
  pub own_played : (n : ℕ) (after : Board) → counted (judged_if (takes kind) (unpack plan)) ≡ accepted n
      → Written (judged_if (takes kind) (unpack plan)) b after
      → (good true ≡ play_of (call_of (takes kind) b used own plan)) × (after ≡ played_board (takes kind) b used own plan)
  own_played n after c w = go (judged_if (takes kind) (unpack plan)) refl c w
    where
      go : (j : Judged (List Transaction)) → judged_if (takes kind) (unpack plan) ≡ j → counted j ≡ accepted n → Written j b after
          → (good true ≡ play_of (call_of (takes kind) b used own plan)) × (after ≡ played_board (takes kind) b used own plan)
      go (accepted ts) p c w = let o = own_list ts p in (o.0, w ∙ o.1)
      go (refused m) p c w = let z : ◌≡◌ {A = ℕ} 0 1 = cc in absurd (omega arith)
