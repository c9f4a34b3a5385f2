-- The task of three maps is sound and has a limit; the transactions of a run of registers, one after the other. Assumes nothing.
use mathlib.Core.Path.{◌≡◌, refl, sym, ap, ◌∙◌}
use mathlib.Core.Logic.{◌⊎◌, inl, inr}
use mathlib.Core.Bool.{Bool, true, false, ◌&&◌, ◌||◌}
use mathlib.Core.List.{List, ◌∷◌}
use Prim.Native.Nat.{ℕ, suc, ◌+◌, ◌-◌, ◌/◌, ◌^◌, ◌≤◌, ◌<◌, min}
use native.Mathlib.Omega.{arith}
use lib.Count.{count_trailing_zeros}
use lib.Dec.{leb, ltb, eqb}
use lib.ListN.{length}
use lib.Pow.{shr_le}
use lib.Seq.{slice, length-slice}
use borrow.Author.Tests.{not-false}
use Rattle.bits.specs.Maps.{map_width, has}
use Rattle.bits.proofs.SetLaws.{has_shr}
use Rattle.bus.specs.Transactions.{Transaction}
use Rattle.least_cost.specs.Task.{Task, Sound, Limited}
use Rattle.least_cost.specs.Plan.{best, stop_of, Run}
use Rattle.bus.proofs.After.{later}
use Rattle.least_cost.proofs.Rounds.{scan_skips, scan-stop, stop_in}
use Rattle.least_cost.proofs.Segments.{joins_ok, same_stop}
use Rattle.cutting.specs.Spans.{MapsSoFar}
use Rattle.cutting.specs.Task.{map_task, run_task, Plannable, plan_from}
use Rattle.cutting.proofs.LowestLaws.{lowest_is}
use Rattle.cutting.proofs.SpanLaws.{sofar_more}

module _ (needed allowed held limit : ℕ) (w : List ℕ) (π : Plannable needed allowed held limit w) where
  -- the task of the maps
  abbrev p : Task
  p = map_task (length w) needed allowed held limit

  -- a transaction takes only registers that may be written
  allowed_in : (s x : ℕ) → p.takes s x ≡ true → has allowed x ≡ true
  allowed_in s x = go (has allowed x) (ltb (x - s) limit)
    where
      go : (a b : Bool) → (a && b) ≡ true → a ≡ true
      go true b e = refl
      go false b e = e

  -- it is sound
  pub map-sound : Sound p
  map-sound = record {
    need_in = λ x n. π.inside x (π.writable x n);
    takes_in = λ s x t. π.inside x (allowed_in s x t);
    cut_first = rw π.first;
    cut_before = λ x c. π.before x (not-false (has held (suc x)) c);
    cut_after = λ x c. π.after x (not-false (has held x) c);
    small = omega (arith, π.small);
    stop = π.stop;
  }

  -- and has a limit
  pub map-limited : Limited p (has allowed) limit
  map-limited = record { takes = λ s i. refl; needed = π.writable }

  module _ (first end : ℕ) (ρ : Run (has needed) (has allowed) first end) where
    -- the run's registers have wanted bytes
    pub run_inside : end ≤ length w
    run_inside = let s = ρ.some in go (later first (end - 1) (omega arith))
      where
        go : (end - 1 ≡ first) ⊎ (suc first ≤ end - 1) → end ≤ length w
        go (inl e) = let s = ρ.some in omega (arith, π.inside first (π.writable first ρ.first))
        go (inr d) =
            let s = ρ.some in
            omega (arith, π.inside (end - 1) (joins_ok (has needed) (has allowed) π.writable (end - 1) (ρ.goes (end - 1) d (omega arith))))

    -- the transaction that starts at a needed register of the run
    next : (at stop : ℕ) → first ≤ at → at < end → has needed at ≡ true → stop ≡ stop_of (run_task needed held limit end) (end - suc at) (suc at) at
        → plan_from needed allowed held limit w at ≡ record { subaddress = at; bytes = slice at stop w } ∷ plan_from needed allowed held limit w stop
    next at stop f l n e =
        let i = run_inside in
        let same = same_stop p map-sound (has allowed) limit map-limited first end ρ run_inside (end - suc at) (length w - suc at) (suc at) at
        (omega arith) (omega arith) f (omega arith) in
        let q = (stop_in (run_task needed held limit end) (end - suc at) (suc at) at).1 in
        scan-stop p w (length w - at) at (length w - suc at) at (omega arith) (omega arith) (omega arith) (λ x a b. absurd (omega arith)) n
        (length w - stop) stop (e ∙ sym same) (omega arith)

    -- registers that aren't needed are passed over
    skips : (i j : ℕ) → i ≤ j → j ≤ end → ((x : ℕ) → i ≤ x → x < j → has needed x ≡ false)
        → plan_from needed allowed held limit w i ≡ plan_from needed allowed held limit w j
    skips i j h k n = let r = run_inside in scan_skips p (best p) w (length w - i) i (length w - j) j (omega arith) h n

    -- one round of the cut
    cut-more : (ts : List Transaction) (taken starts taken' starts' at stop gap : ℕ) → needed < 2 ^ 64 → first ≤ at → at < end → has needed at ≡ true
        → stop ≡ stop_of (run_task needed held limit end) (end - suc at) (suc at) at → gap ≡ count_trailing_zeros map_width (needed / 2 ^ stop)
        → ((x : ℕ) → has taken' x ≡ (has taken x || (leb at x && ltb x stop))) → ((x : ℕ) → has starts' x ≡ (has starts x || eqb at x))
        → MapsSoFar ts (plan_from needed allowed held limit w (min at end)) taken starts
        → MapsSoFar ts (plan_from needed allowed held limit w (min (stop + gap) end)) taken' starts'
    cut-more ts taken starts taken' starts' at stop gap small f l n e g t s h =
        let q = stop_in (run_task needed held limit end) (end - suc at) (suc at) at in
        let q₀ = q.0 in
        let q₁ = q.1 in
        let i = run_inside in
        let m : min at end ≡ at = omega arith in
        let z = lowest_is (needed / 2 ^ stop) gap (omega (arith, shr_le needed stop)) g in
        let none : (x : ℕ) → stop ≤ x → x < min (stop + gap) end → has needed x ≡ false = λ x a b.
        let d : stop + (x - stop) ≡ x = omega arith in ap (has needed) (sym d) ∙ sym (has_shr needed stop (x - stop)) ∙ z.clear (x - stop) (omega arith) in
        rw (← (skips stop (min (stop + gap) end) (omega arith) (omega arith) none))
        (sofar_more ts (plan_from needed allowed held limit w stop) taken starts taken' starts' at stop (slice at stop w)
        (omega (arith, length-slice at stop w (omega arith))) t s (rw (← (next at stop f l n e)) (rw m at h)))

-- the transactions of a run, as far as they were made
pub record Cut (needed held limit first end taken starts taken' starts' at : ℕ) : Type 0 where
  pub from : first ≤ at
  pub need : at < end → has needed at ≡ true
  pub sofar : (allowed : ℕ) (w : List ℕ) → Plannable needed allowed held limit w → Run (has needed) (has allowed) first end → (ts : List Transaction)
      → MapsSoFar ts (plan_from needed allowed held limit w first) taken starts → MapsSoFar ts (plan_from needed allowed held limit w (min at end)) taken' starts'

-- at first there are none
pub cut-none : (needed held limit first end taken starts : ℕ) → first < end → has needed first ≡ true
    → Cut needed held limit first end taken starts taken starts first
cut-none needed held limit first end taken starts h n =
    let m : min first end ≡ first = omega arith in
    record { from = omega arith; need = λ k. n; sofar = λ allowed w π ρ ts s. rw m s }

-- a transaction ends past its start, and in the run
pub stop_inside : (needed held limit end at stop : ℕ) → at < end → stop ≡ stop_of (run_task needed held limit end) (end - suc at) (suc at) at
    → (at < stop) × (stop ≤ end)
stop_inside needed held limit end at stop h e =
    let q = stop_in (run_task needed held limit end) (end - suc at) (suc at) at in
    let q₀ = q.0 in
    let q₁ = q.1 in
    (omega arith, omega arith)

-- and with each round one more
pub cut_round : (needed held limit first end taken starts taken' starts' taken'' starts'' at stop gap : ℕ) → needed < 2 ^ 64 → end < 64 → at < end
    → stop ≡ stop_of (run_task needed held limit end) (end - suc at) (suc at) at → gap ≡ count_trailing_zeros map_width (needed / 2 ^ stop)
    → ((x : ℕ) → has taken'' x ≡ (has taken' x || (leb at x && ltb x stop))) → ((x : ℕ) → has starts'' x ≡ (has starts' x || eqb at x))
    → Cut needed held limit first end taken starts taken' starts' at → Cut needed held limit first end taken starts taken'' starts'' (stop + gap)
cut_round needed held limit first end taken starts taken' starts' taken'' starts'' at stop gap small h l e g t s c =
    let q = (stop_in (run_task needed held limit end) (end - suc at) (suc at) at).0 in
    let f = c.from in
    let z = lowest_is (needed / 2 ^ stop) gap (omega (arith, shr_le needed stop)) g in
    record {
      from = omega arith;
      need = λ k. sym (has_shr needed stop gap) ∙ z.first (omega arith);
      sofar = λ allowed w π ρ ts u.
          cut-more needed allowed held limit w π first end ρ ts taken' starts' taken'' starts'' at stop gap small f l (c.need l) e g t s
          (c.sofar allowed w π ρ ts u);
    }
