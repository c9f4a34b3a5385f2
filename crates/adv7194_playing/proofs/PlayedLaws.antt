-- What playing a plan whose list is taken answers and leaves, at the chip's own address: every byte is acknowledged; the data are written over the
-- registers, the others hold what they held; exactly the registers that were known or that the list touches are known. Assumes nothing.
use mathlib.Core.Path.{◌≡◌, refl, sym, ap, ◌∙◌, subst⁻¹}
use mathlib.Core.Logic.{⊎_elim}
use mathlib.Core.Bool.{Bool, true, false, ◌||◌, or-false}
use mathlib.Core.List.{List, [], ◌∷◌}
use Prim.Native.Nat.{ℕ, ◌≤◌, ◌<◌}
use native.Mathlib.Omega.{arith}
use lib.Dec.{T}
use lib.ListN.{length, get_or}
use Rattle.refusals.specs.Refusal.{accepted}
use Rattle.refusals.specs.Verdict.{good}
use Rattle.bus.specs.Transactions.{Transaction, Touched}
use Rattle.bus.specs.Run.{idle_at, after}
use Rattle.bus.proofs.Play.{Kept, touched_or_same}
use Rattle.bus.proofs.WrittenRun.{run-written}
use Rattle.bus.proofs.KnownLaws.{touched_by, touched_agree, has-marks_of}
use Rattle.unpacking.specs.Unpacking.{unpack}
use Rattle.adv7194_bus.specs.Kind.{register_count, adv7194}
use Rattle.adv7194_bus.specs.declared.board.Board.{Board}
use Rattle.adv7194_bus.specs.Board.{knows}
use Rattle.bus.specs.Address.{address_right}
use Rattle.adv7194_playing.specs.declared.PlanKind.{PlanKind}
use Rattle.playing.specs.Playing.{play_of}
use Rattle.playing.proofs.Judging.{by_test}
use Rattle.adv7194_playing.specs.Playing.{takes, call_of, played_board}
use Rattle.bus.specs.Written.{all_written}
use Rattle.adv7194_playing.specs.Written.{board_written}
use Rattle.adv7194_playing.proofs.KindLaws.{all-kept}
use Rattle.adv7194_playing.proofs.WrittenRun.{own_list}
use Rattle.bits.specs.Lists.{Every}

-- a register that is touched by data for registers that the chip keeps is one of the chip's
touched-inside : (own : ℕ) (ts : List Transaction) (r : ℕ) → Every (Kept (adv7194 own)) ts → Touched ts r → r < register_count
touched-inside own [] r h u = absurd u
touched-inside own (t ∷ ts) r h u = ⊎_elim (λ v. (h.0 r v).0) (λ v. touched-inside own ts r h.1 v) u

module _ (kind : PlanKind) (b : Board) (own : ℕ) (plan : List ℕ) (ts : List Transaction) (long : length b.registers ≡ register_count)
    (right : address_right own ≡ true) (unpacks : unpack plan ≡ accepted ts) (taken : takes kind ts ≡ true) where
  -- every byte is acknowledged
  pub played_answer : play_of (call_of (takes kind) b own own plan) ≡ good true
  played_answer = sym (own_list kind b own own refl plan long right right ts (by_test (takes kind) unpacks taken)).0

  -- the board is left with the data written over its registers, which are then known
  pub played_board_lem : played_board (takes kind) b own own plan ≡ board_written b ts
  played_board_lem = sym (own_list kind b own own refl plan long right right ts (by_test (takes kind) unpacks taken)).1

  -- its registers alone
  pub played_registers : (played_board (takes kind) b own own plan).registers ≡ all_written b.registers ts
  played_registers = ap (λ (x : Board). x.registers) played_board_lem

  -- which are those of the chip after the list's events
  pub played_run : (played_board (takes kind) b own own plan).registers ≡ (after (adv7194 own) (idle_at 0 b.registers) ts).registers
  played_run = played_registers ∙ sym (run-written (adv7194 own) ts (idle_at 0 b.registers) (all-kept own kind ts taken))

  -- a register that isn't touched holds what it held
  pub played_untouched : (r : ℕ) → (Touched ts r → ⊥) → get_or (played_board (takes kind) b own own plan).registers r 0 ≡ get_or b.registers r 0
  played_untouched r u =
      ap (λ (l : List ℕ). get_or l r 0) played_run
      ∙ ⊎_elim (λ v. absurd (u v)) (λ v. v) (touched_or_same (adv7194 own) ts (idle_at 0 b.registers) r)

  -- exactly the registers that were known or are touched are known
  pub played_knows : (r : ℕ) → knows (played_board (takes kind) b own own plan) r ≡ (knows b r || touched_by ts r)
  played_knows r = ap (λ (x : Board). knows x r) played_board_lem ∙ has-marks_of ts b.known r

  -- a flag past the last register stays as it came
  pub played_past : (r : ℕ) → register_count ≤ r → knows (played_board (takes kind) b own own plan) r ≡ knows b r
  played_past r past = played_knows r ∙ ap (λ (x : Bool). knows b r || x) (none (touched_by ts r) refl) ∙ or-false (knows b r)
    where
      none : (x : Bool) → touched_by ts r ≡ x → touched_by ts r ≡ false
      none true e = absurd (omega (arith, touched-inside own ts r (all-kept own kind ts taken) ((touched_agree ts r).0 (subst⁻¹ T e tt))))
      none false e = e
