-- The transactions of a plan, a run of the registers covered at a time. Assumes nothing.
use mathlib.Core.Path.{◌≡◌, refl, sym, ap, ◌∙◌}
use mathlib.Core.Logic.{◌⊎◌, inl, inr}
use mathlib.Core.Bool.{Bool, true, false, ◌&&◌, ◌||◌, or-false, false≢true}
use mathlib.Core.List.{List, [], ◌∷◌}
use Prim.Native.Nat.{ℕ, zero, suc, ◌+◌, ◌-◌, ◌/◌, ◌^◌, ◌≤◌, ◌<◌}
use native.Mathlib.Nat.{sub-zero, div-one}
use native.Mathlib.Omega.{arith}
use lib.Dec.{leb, ltb, eqb}
use lib.ListN.{length}
use lib.Seq.{slice, length-slice}
use Rattle.bits.specs.Maps.{has}
use Rattle.bus.specs.Transactions.{Transaction}
use Rattle.least_cost.specs.Plan.{best, plan, scan, Run}
use Rattle.least_cost.proofs.Rounds.{scan_skips, scan-stop}
use Rattle.least_cost.proofs.Segments.{whole_run}
use Rattle.cutting.specs.Spans.{touched, begun, MapsSoFar}
use Rattle.cutting.specs.Task.{map_task, Bounded, Plannable, plan_by, plan_from}
use Rattle.cutting.proofs.SpanLaws.{sofar_more}
use Rattle.planning.proofs.ShiftLaws.{has-past, none-past}
use Rattle.cutting.proofs.CutLaws.{map-sound, map-limited, run_inside}
use Rattle.planning.specs.Registers.{covers, before}
use Rattle.planning.proofs.RunLaws.{before-is, uncovered, covered_ok, run_of}
use Rattle.planning.proofs.OnesLaws.{Next, none_left}

-- the maps of the transactions found so far: f registers were passed, and `rest` is the map of the covered ones that are left
pub record Found (needed allowed held limit map taken starts rest f : ℕ) : Type 0 where
  pub is : rest ≡ map / 2 ^ f
  pub low : f ≤ 63
  pub closed : (f ≡ 0) ⊎ (has map f ≡ false)
  pub sofar : (w : List ℕ) → Plannable needed allowed held limit w
      → (f ≤ length w) × MapsSoFar (plan_by needed allowed held limit w) (plan_from needed allowed held limit w f) taken starts

module _ (needed allowed held limit map : ℕ) (covered : (i : ℕ) → has map i ≡ covers (has needed) (has allowed) i) (β : Bounded needed allowed limit) where
  -- the plan
  abbrev all : List ℕ → List Transaction
  all w = plan_by needed allowed held limit w

  -- what is left of it from a register on
  abbrev left : List ℕ → ℕ → List Transaction
  left w i = plan_from needed allowed held limit w i

  -- that there is one
  abbrev Can : List ℕ → Type 0
  Can w = Plannable needed allowed held limit w

  -- the map is a number of 63 bits
  pub map-low : map < 2 ^ 64 → map < 2 ^ 63
  map-low h = none-past 64 map 63 h off
    where
      off : (x : ℕ) → 63 ≤ x → has map x ≡ false
      off x k = go (has map x) refl
        where
          go : (b : Bool) → has map x ≡ b → has map x ≡ false
          go true e = absurd (omega (arith, β.small x (covered_ok (has needed) (has allowed) (has map) β.writable covered x e)))
          go false e = e

  -- at first there are none
  pub found_none : Found needed allowed held limit map 0 0 map 0
  unfolding plan
  found_none = record {
    is = sym (div-one map);
    low = omega arith;
    closed = inl refl;
    sofar = λ w π. (
      omega arith,
      rw (sub-zero (length w)) (record {
        touches = λ x. ap (λ (b : Bool). b || touched (all w) x) (sym (none x));
        begins = λ x. ap (λ (b : Bool). b || begun (all w) x) (sym (none x));
      }),
    );
  }
    where
      none : (x : ℕ) → has 0 x ≡ false
      none x = has-past 0 0 x (omega arith) (omega arith)

  module _ (taken starts rest f gap size : ℕ) (h : Found needed allowed held limit map taken starts rest f) (n : Next map f rest gap size) where
    -- no covered register stands before the run
    alone : before (has map) (f + gap) ≡ false
    alone = go gap refl h.closed
      where
        go : (g : ℕ) → gap ≡ g → (f ≡ 0) ⊎ (has map f ≡ false) → before (has map) (f + gap) ≡ false
        go zero e (inl z) = let q : f + gap ≡ 0 = omega arith in rw q
        go zero e (inr z) =
            let s = n.some in
            let q : f + gap ≡ f = omega arith in
            absurd (false≢true (sym z ∙ ap (has map) (sym q) ∙ n.on (f + gap) (omega arith) (omega arith)))
        go (suc g) e c = before-is (has map) (f + gap) false (omega arith) (n.off (f + gap - 1) (omega arith) (omega arith))

    -- the run of this round
    pub run-found : Run (has needed) (has allowed) (f + gap) (f + gap + size)
    run-found =
        run_of (has needed) (has allowed) (has map) β.writable covered (f + gap) (f + gap + size) (omega (arith, n.some)) alone n.on n.stop

    -- it lies below register 63
    pub run-low : f + gap + size ≤ 63
    run-low =
        let s = n.some in
        let x = f + gap + size - 1 in
        omega (arith, β.small x (covered_ok (has needed) (has allowed) (has map) β.writable covered x (n.on x (omega arith) (omega arith))))

    -- the plan's transactions from its first register on
    at-run : (w : List ℕ) → Can w → MapsSoFar (all w) (left w (f + gap)) taken starts
    at-run w π =
        let p = map_task (length w) needed allowed held limit in
        let i = run_inside needed allowed held limit w π (f + gap) (f + gap + size) run-found in
        let s = h.sofar w π in
        let s₀ = s.0 in
        rw (← (scan_skips p (best p) w (length w - f) f (length w - (f + gap)) (f + gap) (omega arith) (omega arith)
        (λ x a b. uncovered (has needed) (has allowed) (has map) β.writable covered x (n.off x a b)))) s.1

    -- the round, where the transactions of the run were found
    pub found-more : (taken' starts' : ℕ)
        → ((w : List ℕ) → Can w → MapsSoFar (all w) (left w (f + gap + size)) taken' starts')
        → Found needed allowed held limit map taken' starts' (rest / 2 ^ gap / 2 ^ size) (f + gap + size)
    found-more taken' starts' g = record {
      is = n.after;
      low = run-low;
      closed = inr n.stop;
      sofar = λ w π. (run_inside needed allowed held limit w π (f + gap) (f + gap + size) run-found, g w π);
    }

    -- a run within the limit is one transaction
    pub found-whole : (taken' starts' : ℕ) → size ≤ limit → ((x : ℕ) → has taken' x ≡ (has taken x || (leb (f + gap) x && ltb x (f + gap + size))))
        → ((x : ℕ) → has starts' x ≡ (has starts x || eqb (f + gap) x))
        → (w : List ℕ) → Can w → MapsSoFar (all w) (left w (f + gap + size)) taken' starts'
    found-whole taken' starts' l t s w π =
        let p = map_task (length w) needed allowed held limit in
        let a = f + gap in
        let e = f + gap + size in
        let k = length w - suc a in
        let i = run_inside needed allowed held limit w π a e run-found in
        let m = n.some in
        let stop = whole_run p (map-sound needed allowed held limit w π) (has allowed) limit (map-limited needed allowed held limit w π) a e run-found i
        (omega arith) k (omega arith) in
        let next : left w a ≡ record { subaddress = a; bytes = slice a e w } ∷ left w e = scan-stop p w (length w - a) a k a
        (omega arith) (omega arith) (omega arith) (λ x u v. absurd (omega arith)) run-found.first (length w - e) e (sym stop) (omega arith) in
        sofar_more (all w) (left w e) taken starts taken' starts' a e (slice a e w) (omega (arith, length-slice a e w i)) t s (rw (← next) (at-run w π))

    -- a longer one is cut
    pub found-cut : (taken' starts' : ℕ)
        → ((may : ℕ) (w : List ℕ) → Plannable needed may held limit w → Run (has needed) (has may) (f + gap) (f + gap + size) → (ts : List Transaction)
        → MapsSoFar ts (plan_from needed may held limit w (f + gap)) taken starts
        → MapsSoFar ts (plan_from needed may held limit w (f + gap + size)) taken' starts')
        → (w : List ℕ) → Can w → MapsSoFar (all w) (left w (f + gap + size)) taken' starts'
    found-cut taken' starts' c w π = c allowed w π run-found (all w) (at-run w π)

  -- where no register is left the maps are those of the plan
  pub found_all : (taken starts f : ℕ) → Found needed allowed held limit map taken starts 0 f → (w : List ℕ) → Can w
      → ((x : ℕ) → has taken x ≡ touched (all w) x) × ((x : ℕ) → has starts x ≡ begun (all w) x)
  unfolding scan touched begun
  found_all taken starts f h w π =
      let p = map_task (length w) needed allowed held limit in
      let s = h.sofar w π in
      let s₀ = s.0 in
      let none : left w f ≡ [] = scan_skips p (best p) w (length w - f) f 0 (length w) (omega arith) s₀
      (λ x a b. uncovered (has needed) (has allowed) (has map) β.writable covered x (none_left map f (sym h.is) x a)) in
      let t = rw none at s.1 in
      (λ x. sym (t.touches x ∙ or-false (has taken x)), λ x. sym (t.begins x ∙ or-false (has starts x)))
