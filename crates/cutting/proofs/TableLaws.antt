-- The table of what it weighs to end a transaction before each register of a run, and the ends that it gives. Assumes nothing.
use mathlib.Core.Path.{◌≡◌, refl, sym, ◌∙◌}
use mathlib.Core.Logic.{◌⊎◌, inl, inr}
use mathlib.Core.Bool.{Bool, true, false, cond, not}
use mathlib.Core.List.{List}
use Prim.Native.Nat.{ℕ, zero, suc, ◌+◌, ◌-◌, ◌*◌, ◌%◌, ◌^◌, ◌≤◌, ◌<◌, min}
use native.Mathlib.Omega.{arith}
use lib.Dec.{leb, ltb}
use lib.ListN.{length, get_or, set, length-set}
use lib.Seq.{get_or-set_same, get_or-set_other}
use borrow.Author.Tests.{lt-ltb, le-ltb, leb-true, leb-false}
use Rattle.bits.specs.Maps.{has}
use Rattle.least_cost.specs.Task.{Task}
use Rattle.least_cost.specs.Weight.{byte_weight, start_weight, too_heavy, penalty, least_closed, least_open}
use Rattle.least_cost.specs.Plan.{best, stop_of}
use Rattle.bus.proofs.After.{later}
use Rattle.least_cost.proofs.WeightLaws.{closed_need, closed_skip, open_takes, open_barred, open_shut}
use Rattle.cutting.specs.Cuts.{first_least, Candidates, Highest}
use Rattle.cutting.specs.Task.{run_task}
use Rattle.cutting.proofs.CandidateLaws.{highest_least, candidates_alike, candidates_one}

-- the most that a register can add to the weight
abbrev most : ℕ
most = start_weight + byte_weight + too_heavy

-- more than a number of the table
abbrev pub largest_weight : ℕ
largest_weight = 65_000_000

-- one of two numbers is no more than the most of both
pub either : (b : Bool) (x y m : ℕ) → x ≤ m → y ≤ m → cond b x y ≤ m
either true x y m h k = h
either false x y m h k = k

module _ (needed held limit end : ℕ) where
  -- the task of the run
  abbrev q : Task
  q = run_task needed held limit end

  -- what it weighs to end before register e, where all registers before it are data
  abbrev ending : ℕ → ℕ
  ending e = byte_weight * e + (penalty (not (has held e)) + least_closed q (end - e) e)

  -- no penalty is more than the one
  heavy : (b : Bool) → penalty b ≤ too_heavy
  heavy true = omega arith
  heavy false = omega arith

  -- the weight of some registers is not large
  light : (k i : ℕ) → least_closed q k i ≤ most * k
  unfolding least_closed
  light zero i = omega arith
  light (suc k) i = split (has needed i) refl (light k (suc i))
    where
      split : (b : Bool) → has needed i ≡ b → least_closed q k (suc i) ≤ most * k → least_closed q (suc k) i ≤ most * suc k
      split true n ih = omega (arith, closed_need q k i n, open_shut q k (suc i) i, heavy (not (has held (suc i))))
      split false n ih = omega (arith, closed_skip q k i n)

  -- ---- the end of a transaction that starts at s is the first least of the table, as far as it may go

  module _ (f : ℕ → ℕ) (s last : ℕ) (table : (e : ℕ) → s < e → e ≤ last → f e ≡ ending e) (reach : last ≡ min (s + limit) end) where
    -- both what it weighs and where it ends
    abbrev Ends : ℕ → ℕ → ℕ → Type 0
    Ends k j x = (least_open q j x s + byte_weight * x ≡ f (first_least f k x)) × (stop_of q j x s ≡ first_least f k x)

    -- a transaction that may not take the register ends
    barred : (j x : ℕ) → limit ≤ x - s → best q j x s ≡ false
    unfolding best
    barred j x h = rw (le-ltb (x - s) limit h)

    -- at the last register that it may end before
    at_last : (j x : ℕ) → x + j ≡ end → x ≡ last → s < x → Ends 0 j x
    unfolding first_least stop_of least_closed
    at_last zero x e l h =
        let n : end - x ≡ 0 = omega arith in
        let t = table x h (omega arith) in
        (omega (arith, rw n at t), refl)
    at_last (suc j) x e l h =
        let n : end - x ≡ suc j = omega arith in
        let t = table x h (omega arith) in
        (omega (arith, rw n at t, open_barred q j x s (le-ltb (x - s) limit (omega arith))), rw (barred j x (omega arith)))

    -- what it weighs to go on over register x
    abbrev onward : ℕ → ℕ → ℕ
    onward j x = byte_weight + least_open q j (suc x) s

    -- and to end before it
    abbrev end_now : ℕ → ℕ → ℕ
    end_now j x = penalty (not (has held x)) + least_closed q (suc j) x

    -- it goes on, or ends
    choice : (j x : ℕ) → x + suc j ≡ end → x < last → s < x → (b : Bool) → ltb (onward j x) (end_now j x) ≡ b → best q j x s ≡ b
    unfolding best
    choice j x e l h b u = rw (lt-ltb (x - s) limit (omega arith), u)

    -- and at those before
    window : (k j x : ℕ) → x + k ≡ last → x + j ≡ end → s < x → Ends k j x
    unfolding first_least stop_of
    window zero j x e g h = at_last j x g (omega arith) h
    window (suc k) zero x e g h = absurd (omega arith)
    window (suc k) (suc j) x e g h = split (leb (f x) (f (first_least f k (suc x)))) refl (window k j (suc x) (omega arith) (omega arith) (omega arith))
      where
        at_x : f x ≡ byte_weight * x + (penalty (not (has held x)) + least_closed q (suc j) x)
        at_x = let n : end - x ≡ suc j = omega arith in rw n at (table x h (omega arith))

        split : (b : Bool) → leb (f x) (f (first_least f k (suc x))) ≡ b → Ends k j (suc x)
            → (least_open q (suc j) x s + byte_weight * x ≡ f (cond b x (first_least f k (suc x)))) × (stop_of q (suc j) x s ≡ cond b x (first_least f k (suc x)))
        split true u ih =
            let d = leb-true (f x) (f (first_least f k (suc x))) u in
            let t = at_x in
            let i = ih.0 in (
              omega (arith, open_takes q j x s (lt-ltb (x - s) limit (omega arith))),
              rw (choice j x g (omega arith) h false (le-ltb (onward j x) (end_now j x) (omega arith))),
            )
        split false u ih =
            let d = leb-false (f x) (f (first_least f k (suc x))) u in
            let t = at_x in
            let i = ih.0 in (
              omega (arith, open_takes q j x s (lt-ltb (x - s) limit (omega arith))),
              rw (choice j x g (omega arith) h true (lt-ltb (onward j x) (end_now j x) (omega arith))) ih.1,
            )

  -- ---- the table, as it is filled

  pub record Table (first : ℕ) (stops weights : List ℕ) (rest candidates at : ℕ) : Type 0 where
    pub from : first ≤ at
    pub to : at ≤ end
    pub stops_long : length stops ≡ 64
    pub weights_long : length weights ≡ 64
    pub is : rest ≡ least_closed q (end - at) at
    pub weighs : (e : ℕ) → at ≤ e → e ≤ end → get_or weights e 0 ≡ ending e
    pub ends : (i : ℕ) → at ≤ i → i < end → has needed i ≡ true → get_or stops i 0 ≡ stop_of q (end - suc i) (suc i) i
    pub best : Candidates (λ i. get_or weights i 0) candidates at end

  -- ---- one register more

  module _ (first : ℕ) (stops weights : List ℕ) (rest candidates at stop rest' v : ℕ) (small : end < 64) (some : 0 < limit) (f : first ≤ at)
      (h : suc at ≤ end) (t : Table first stops weights rest candidates (suc at)) (g : Highest candidates (min (at + limit) end) stop)
      (r : rest' ≡ cond (has needed at) (start_weight + get_or weights stop 0 - byte_weight * at) rest)
      (u : v ≡ byte_weight * at + (penalty (not (has held at)) + rest')) where
    -- the highest candidate is the first least of the ends
    least-end : stop ≡ first_least (λ i. get_or weights i 0) (min (at + limit) end - suc at) (suc at)
    least-end = highest_least (λ i. get_or weights i 0) candidates (suc at) end (min (at + limit) end) stop (omega arith) (omega arith) t.best g

    -- so what a transaction that starts at the register weighs, and where it ends, is what the table says
    ends_there : (least_open q (end - suc at) (suc at) at + byte_weight * suc at ≡ get_or weights stop 0) × (stop_of q (end - suc at) (suc at) at ≡ stop)
    ends_there =
        rw least-end
        (window (λ i. get_or weights i 0) at (min (at + limit) end) (λ e a b. t.weighs e a (omega arith)) refl
        (min (at + limit) end - suc at) (end - suc at) (suc at) (omega arith) (omega arith) (omega arith))

    -- what the registers from it on weigh
    rest-is : rest' ≡ least_closed q (end - at) at
    rest-is = let m : end - at ≡ suc (end - suc at) = omega arith in rw m (split (has needed at) refl r)
      where
        split : (b : Bool) → has needed at ≡ b → rest' ≡ cond b (start_weight + get_or weights stop 0 - byte_weight * at) rest
            → rest' ≡ least_closed q (suc (end - suc at)) at
        split true n e = omega (arith, ends_there.0, closed_need q (end - suc at) at n)
        split false n e = omega (arith, t.is, closed_skip q (end - suc at) at n)

    -- the weights with it
    weighs_more : (e : ℕ) → at ≤ e → e ≤ end → get_or (set weights at v) e 0 ≡ ending e
    weighs_more e a b = split (later at e a)
      where
        split : (e ≡ at) ⊎ (suc at ≤ e) → get_or (set weights at v) e 0 ≡ ending e
        split (inl d) = let n = t.weights_long in rw d (get_or-set_same weights at v 0 (omega arith) ∙ rw (← rest-is) u)
        split (inr d) = get_or-set_other weights at e v 0 (omega arith) ∙ t.weighs e d b

    -- and the ends
    ends_more : (i : ℕ) → at ≤ i → i < end → has needed i ≡ true → get_or (set stops at stop) i 0 ≡ stop_of q (end - suc i) (suc i) i
    ends_more i a b n = split (later at i a)
      where
        split : (i ≡ at) ⊎ (suc at ≤ i) → get_or (set stops at stop) i 0 ≡ stop_of q (end - suc i) (suc i) i
        split (inl d) = let m = t.stops_long in rw d (get_or-set_same stops at stop 0 (omega arith) ∙ sym ends_there.1)
        split (inr d) = get_or-set_other stops at i stop 0 (omega arith) ∙ t.ends i d b n

    -- the table with it
    table_more : (more : ℕ)
        → (Candidates (λ i. get_or (set weights at v) i 0) candidates (suc at) end → Candidates (λ i. get_or (set weights at v) i 0) more at end)
        → Table first (set stops at stop) (set weights at v) rest' more at
    table_more more c = record {
      from = f;
      to = omega arith;
      stops_long = length-set stops at stop ∙ t.stops_long;
      weights_long = length-set weights at v ∙ t.weights_long;
      is = rest-is;
      weighs = weighs_more;
      ends = ends_more;
      best =
          c (candidates_alike (λ i. get_or weights i 0) (λ i. get_or (set weights at v) i 0) candidates (suc at) end
          (λ i a b. sym (get_or-set_other weights at i v 0 (omega arith))) t.best);
    }

  -- the register before the last one passed
  stepped : {first : ℕ} {stops weights : List ℕ} {rest candidates : ℕ} (at : ℕ) → 0 < at → Table first stops weights rest candidates at
      → Table first stops weights rest candidates (suc (at - 1))
  stepped {first} {stops} {weights} {rest} {candidates} at h t = let e : suc (at - 1) ≡ at = omega arith in rw e t

  -- one round
  pub round : (first : ℕ) (stops weights : List ℕ) (rest candidates at stop rest' v more : ℕ) → end < 64 → 0 < limit → first < at
      → Table first stops weights rest candidates at → Highest candidates (min (at - 1 + limit) end) stop
      → rest' ≡ cond (has needed (at - 1)) (start_weight + get_or weights stop 0 - byte_weight * (at - 1)) rest
      → v ≡ byte_weight * (at - 1) + (penalty (not (has held (at - 1))) + rest')
      → ((e : ℕ) → at - 1 ≤ e → Candidates (λ i. get_or (set weights (at - 1) v) i 0) candidates (suc (at - 1)) e
      → Candidates (λ i. get_or (set weights (at - 1) v) i 0) more (at - 1) e)
      → Table first (set stops (at - 1) stop) (set weights (at - 1) v) rest' more (at - 1)
  round first stops weights rest candidates at stop rest' v more small some f t g r u c =
      let k = t.to in
      table_more first stops weights rest candidates (at - 1) stop rest' v small some (omega arith) (omega arith) (stepped at (omega arith) t) g r u more
      (c end (omega arith))

  -- ---- the table at its beginning, and its bounds

  -- at its beginning
  pub table-begin : (first : ℕ) (stops weights : List ℕ) (v : ℕ) → end < 64 → first ≤ end → length stops ≡ 64 → length weights ≡ 64
      → v ≡ byte_weight * end + (penalty (not (has held end)) + 0) → Table first stops (set weights end v) 0 ((1 * 2 ^ end) % 2 ^ 64) end
  unfolding least_closed
  table-begin first stops weights v small h n m u =
      let z : end - end ≡ 0 = omega arith in
      record {
        from = h;
        to = omega arith;
        stops_long = n;
        weights_long = length-set weights end v ∙ m;
        is = rw z;
        weighs = λ e a b. let d : e ≡ end = omega arith in rw (d, z) (get_or-set_same weights end v 0 (omega arith) ∙ u);
        ends = λ i a b x. absurd (omega arith);
        best = candidates_one (λ i. get_or (set weights end v) i 0) end small;
      }

  -- its numbers are not large
  pub table_bound : {first : ℕ} {stops weights : List ℕ} {rest candidates at : ℕ} → end < 64 → Table first stops weights rest candidates at → (e : ℕ)
      → at ≤ e → e ≤ end → (byte_weight * e ≤ get_or weights e 0) × (get_or weights e 0 ≤ largest_weight)
  table_bound small t e a b =
      let w = t.weighs e a b in
      let l = light (end - e) e in
      let h = heavy (not (has held e)) in
      (omega arith, omega arith)

  -- nor is what is left
  pub rest_bound : {first : ℕ} {stops weights : List ℕ} {rest candidates at : ℕ} → end < 64 → Table first stops weights rest candidates at
      → rest ≤ largest_weight
  rest_bound {at = at} small t = let i = t.is in let l = light (end - at) at in omega arith
