-- What playing a plan that is taken answers and leaves: at the chip's own address every byte is acknowledged, the data are left and their registers are
-- known; at another nothing is stored, none becomes known, and only the empty plan, which sends no byte, is acknowledged. Assumes nothing.
use mathlib.Core.Path.{◌≡◌, refl, sym, ap, ◌∙◌}
use mathlib.Core.Logic.{◌≢◌}
use mathlib.Core.Bool.{true}
use mathlib.Core.List.{List}
use Prim.Native.Nat.{ℕ, ◌<◌}
use lib.Dec.{eqb}
use lib.ListN.{length}
use Rattle.refusals.specs.Refusal.{Judged, accepted, refused}
use Rattle.refusals.specs.Verdict.{good}
use Rattle.bus.specs.Transactions.{Transaction, size}
use Rattle.bus.specs.Run.{idle_at, run, all_acknowledged, list_events}
use Rattle.bus.specs.Written.{all_written}
use Rattle.bus.specs.Known.{known_after, marks_of}
use Rattle.bus.specs.Address.{address_right}
use Rattle.bus.proofs.AddressLaws.{not_read}
use Rattle.bus.proofs.Play.{Kept, list-elsewhere}
use Rattle.bus.proofs.KnownLaws.{known-marks, known-elsewhere}
use Rattle.bus.proofs.WrittenRun.{run-written, run-acknowledged, only-empty}
use Rattle.unpacking.specs.Unpacking.{unpack_by, counted}
use Rattle.playing.specs.Playing.{Call, judged}
use Rattle.playing.proofs.Judging.{was_taken, unpacked_sized}
use Rattle.playing.proofs.Faults.{Left, plan_played}
use Rattle.bits.specs.Lists.{Every}

module _ (c : Call) (known : ℕ) (h : length c.image ≡ c.kind.count) (e : address_right c.used ≡ true) (f : address_right c.kind.address ≡ true) where
  -- at the chip's own address
  pub played_own : c.used ≡ c.kind.address → (ts : List Transaction) → Every (Kept c.kind) ts → judged c ≡ accepted ts
      → Left c known (good true) (all_written c.image ts) (marks_of known ts)
  played_own same ts kept p =
      let sized = unpacked_sized c.next c.plan ts (was_taken c.takes (unpack_by c.next c.plan) ts p).0 in
      let l = plan_played c known h e f ts p in
      record {
        answer = sym (ap good (acks sized)) ∙ l.answer;
        stored = sym stores ∙ l.stored;
        marked = sym marks ∙ l.marked;
      }
    where
      acks : Every (λ t. 0 < size t) ts → all_acknowledged c.kind (idle_at 0 c.image) (list_events c.used ts) ≡ true
      acks sized = rw same (run-acknowledged c.kind ts (idle_at 0 c.image) kept sized)

      stores : (run c.kind (idle_at 0 c.image) (list_events c.used ts)).registers ≡ all_written c.image ts
      stores = rw same (run-written c.kind ts (idle_at 0 c.image) kept)

      marks : known_after c.kind (idle_at 0 c.image) known (list_events c.used ts) ≡ marks_of known ts
      marks = rw same (known-marks c.kind ts (idle_at 0 c.image) known kept)

  -- at another
  pub played_elsewhere : c.used ≢ c.kind.address → (n : ℕ) → counted (judged c) ≡ accepted n → Left c known (good (eqb n 0)) c.image known
  played_elsewhere wrong n = go (judged c) refl
    where
      go : (j : Judged (List Transaction)) → judged c ≡ j → counted j ≡ accepted n → Left c known (good (eqb n 0)) c.image known
      go (accepted ts) p q =
          let same : length ts ≡ n = cc in
          let read = not_read c.used c.kind.address e f in
          let l = plan_played c known h e f ts p in
          record {
            answer =
                sym (ap good (only-empty c.kind c.used wrong read ts (idle_at 0 c.image) ∙ ap (λ (k : ℕ). eqb k 0) same)) ∙ l.answer;
            stored = sym (list-elsewhere c.kind c.used wrong read ts (idle_at 0 c.image)) ∙ l.stored;
            marked = sym (known-elsewhere c.kind c.used wrong read ts (idle_at 0 c.image) known) ∙ l.marked;
          }
      go (refused m) p q = absurd cc
