-- What playing answers, and what it leaves, by what the image, the addresses and the plan are. Assumes nothing.
use mathlib.Core.Path.{◌≡◌, sym}
use mathlib.Core.Bool.{Bool, true, false}
use mathlib.Core.List.{List}
use Prim.Native.Nat.{ℕ}
use lib.ListN.{length}
use borrow.Author.Tests.{eq-eqb, ne_eqb}
use Rattle.refusals.specs.Refusal.{accepted, refused}
use Rattle.refusals.specs.Verdict.{Verdict, good, refused_at}
use Rattle.refusals.specs.Order.{places_at, first_of, Exactly}
use Rattle.refusals.proofs.OrderLaws.{exactly}
use Rattle.bus.specs.Transactions.{Transaction}
use Rattle.bus.specs.Run.{idle_at, run, all_acknowledged, list_events}
use Rattle.bus.specs.Known.{known_after}
use Rattle.bus.specs.Address.{address_right}
use Rattle.playing.specs.Playing.{Call, judged, row_played, play_order, acknowledged, play_of, registers_left, known_left}
use Rattle.playing.proofs.Judging.{only_nine}

-- an answer, and what is left of the registers and of the map of the known ones
pub record Left (c : Call) (known : ℕ) (v : Verdict Bool) (registers : List ℕ) (map : ℕ) : Type 0 where
  pub answer : v ≡ play_of c
  pub stored : registers ≡ registers_left c
  pub marked : map ≡ known_left c known

module _ (c : Call) (known : ℕ) where
  -- a refusal leaves both
  refuses : (n : ℕ) → play_of c ≡ refused_at n 0 → Left c known (refused_at n 0) c.image known
  unfolding registers_left known_left
  refuses n e = record { answer = sym e; stored = rw e; marked = rw e }

  -- the image's length
  pub image_fault : (length c.image ≡ c.kind.count → ⊥) → Left c known (refused_at 1 0) c.image known
  unfolding play_of row_played play_order places_at first_of
  image_fault h = refuses 1 (rw (ne_eqb (length c.image) c.kind.count h))

  module _ (h : length c.image ≡ c.kind.count) where
    -- the address used, and the chip's own
    pub used_fault : address_right c.used ≡ false → Left c known (refused_at 2 0) c.image known
    unfolding play_of row_played play_order places_at first_of
    used_fault e = refuses 2 (rw (eq-eqb (length c.image) c.kind.count h, e))

    pub own_fault : address_right c.used ≡ true → address_right c.kind.address ≡ false → Left c known (refused_at 2 0) c.image known
    unfolding play_of row_played play_order places_at first_of
    own_fault e f = refuses 2 (rw (eq-eqb (length c.image) c.kind.count h, e, f))

    module _ (e : address_right c.used ≡ true) (f : address_right c.kind.address ≡ true) where
      -- the plan
      pub plan_fault : (n : ℕ) → judged c ≡ refused n → Left c known (refused_at n 0) c.image known
      unfolding play_of row_played play_order places_at first_of
      plan_fault n p = refuses n (rw (eq-eqb (length c.image) c.kind.count h, e, f, p, ← only_nine c n p))

      none : (ts : List Transaction) → judged c ≡ accepted ts
          → play_of c ≡ good (all_acknowledged c.kind (idle_at 0 c.image) (list_events c.used ts))
      unfolding play_of row_played play_order places_at first_of
      none ts p = rw (eq-eqb (length c.image) c.kind.count h, e, f, p)

      -- it is played
      pub plan_played : (ts : List Transaction) → judged c ≡ accepted ts
          → Left c known (good (all_acknowledged c.kind (idle_at 0 c.image) (list_events c.used ts)))
          (run c.kind (idle_at 0 c.image) (list_events c.used ts)).registers
          (known_after c.kind (idle_at 0 c.image) known (list_events c.used ts))
      unfolding registers_left known_left
      plan_played ts p = record { answer = sym (none ts p); stored = rw (none ts p, p); marked = rw (none ts p, p) }

-- each row is given exactly when
pub exactly_played : (c : Call) {v : Verdict Bool} → v ≡ play_of c → Exactly (row_played c) play_order (acknowledged c) v
unfolding play_of
exactly_played c e = exactly (row_played c) play_order (acknowledged c) e
