-- Registers that are one transaction where no limit is in force are a task of their own, and one transaction where the limit allows. Assumes nothing.
use mathlib.Core.Path.{◌≡◌, refl, sym, ◌∙◌}
use mathlib.Core.Bool.{Bool, true, false, ◌&&◌, ◌||◌, false≢true, and-eq-true_iff}
use Prim.Native.Nat.{ℕ, zero, suc, ◌+◌, ◌-◌, ◌*◌, ◌≤◌, ◌<◌}
use native.Mathlib.Omega.{arith}
use lib.Dec.{ltb}
use borrow.Author.Tests.{ltb-true, ltb-false, lt-ltb, le-ltb}
use Rattle.least_cost.specs.Task.{Task, Sound, Limited, up_to}
use Rattle.least_cost.specs.Weight.{byte_weight, start_weight, penalty, least_closed, least_open}
use Rattle.least_cost.specs.Plan.{best, stop_of, joins, Run}
use Rattle.least_cost.proofs.WeightLaws.{closed_need, closed_skip, open_takes, open_barred}
use Rattle.least_cost.proofs.Best.{best_false, stops, barred}
use Rattle.least_cost.proofs.Attained.{no_penalty}
use Rattle.least_cost.proofs.Gaps.{Later, gap_barred, gap_3_ends}

-- one of the next three registers is needed, and is in the run
pub data NextIn (need : ℕ → Bool) (x b : ℕ) : Type 0 where
  here : need x ≡ true → NextIn need x b
  next : need (suc x) ≡ true → suc x < b → NextIn need x b
  after : need (suc (suc x)) ≡ true → suc (suc x) < b → NextIn need x b

module _ (need ok : ℕ → Bool) (writes : (i : ℕ) → need i ≡ true → ok i ≡ true) where
  -- an open transaction takes a needed register
  pub need-joins : (i : ℕ) → need i ≡ true → joins need ok i ≡ true
  unfolding joins
  need-joins i n = rw (writes i n, n)

  -- so one that it leaves isn't needed
  pub left_out : (i : ℕ) → joins need ok i ≡ false → need i ≡ false
  left_out i j = go (need i) refl
    where
      go : (b : Bool) → need i ≡ b → need i ≡ false
      go true n = absurd (false≢true (sym j ∙ need-joins i n))
      go false n = n

  -- it may take what it goes on over
  pub joins_ok : (i : ℕ) → joins need ok i ≡ true → ok i ≡ true
  unfolding joins
  joins_ok i e = ((and-eq-true_iff (ok i) (need i || (need (suc i) || (ok (suc i) && need (suc (suc i)))))).0 e).0

  -- inside a run one of the next three registers is needed
  pub next_in : (a b : ℕ) → Run need ok a b → (x : ℕ) → a < x → x < b → NextIn need x b
  unfolding joins
  next_in a b ρ x h k = split (need x) refl (need (suc x)) refl (ρ.goes x h k)
    where
      -- the next register is in the run where the run would go on over it
      inside : joins need ok (suc x) ≡ true → suc x < b
      inside j = go (ltb (suc x) b) refl
        where
          go : (t : Bool) → ltb (suc x) b ≡ t → suc x < b
          go true e = ltb-true (suc x) b e
          go false e = let d = ltb-false (suc x) b e in let p : suc x ≡ b = omega arith in absurd (false≢true (sym ρ.ends ∙ rw p at j))

      far : need (suc (suc x)) ≡ true → suc x < b → suc (suc x) < b
      far n d = go (ltb (suc (suc x)) b) refl
        where
          go : (t : Bool) → ltb (suc (suc x)) b ≡ t → suc (suc x) < b
          go true e = ltb-true (suc (suc x)) b e
          go false e =
              let g = ltb-false (suc (suc x)) b e in
              let p : suc (suc x) ≡ b = omega arith in
              absurd (false≢true (sym ρ.ends ∙ rw p at (need-joins (suc (suc x)) n)))

      over : (o : Bool) → ok (suc x) ≡ o → (n : Bool) → need (suc (suc x)) ≡ n → need (suc x) ≡ false → (o && n) ≡ true → NextIn need x b
      over true e true n m j = let d = inside (rw (e, m, n)) in after n (far n d)
      over true e false n m j = absurd (false≢true j)
      over false e n' n m j = absurd (false≢true j)

      third : need x ≡ false → need (suc x) ≡ false → (o : Bool) → ok x ≡ o
          → (o && (need x || (need (suc x) || (ok (suc x) && need (suc (suc x)))))) ≡ true → NextIn need x b
      third e f true o j = over (ok (suc x)) refl (need (suc (suc x))) refl f (rw (e, f) at j)
      third e f false o j = absurd (false≢true j)

      split : (p : Bool) → need x ≡ p → (q : Bool) → need (suc x) ≡ q → joins need ok x ≡ true → NextIn need x b
      split true e q f j = here e
      split false e true f j = next f (inside (need-joins (suc x) f))
      split false e false f j = third e f (ok x) refl j

-- the same number on both sides
ltb_add : (x y c : ℕ) → ltb (x + c) (y + c) ≡ ltb x y
ltb_add x y c = go (ltb x y) refl
  where
    go : (b : Bool) → ltb x y ≡ b → ltb (x + c) (y + c) ≡ ltb x y
    go true e = let h = ltb-true x y e in lt-ltb (x + c) (y + c) (omega arith) ∙ sym e
    go false e = let h = ltb-false x y e in le-ltb (x + c) (y + c) (omega arith) ∙ sym e

module _ (p : Task) (σ : Sound p) (ok : ℕ → Bool) (limit : ℕ) (μ : Limited p ok limit) where
  -- a transaction may take a register that may be taken, within the limit
  takes_in : (s i : ℕ) → ok i ≡ true → p.takes s i ≡ ltb (i - s) limit
  takes_in s i o = μ.takes s i ∙ rw o

  -- and no other
  takes_none : (s i : ℕ) → ok i ≡ false → p.takes s i ≡ false
  takes_none s i o = μ.takes s i ∙ rw o

  -- one that starts later may take what an earlier one may
  pub later-limited : Later p
  later-limited s s' i h e = go (ok i) refl (ltb (i - s) limit) refl
    where
      go : (o : Bool) → ok i ≡ o → (l : Bool) → ltb (i - s) limit ≡ l → p.takes s' i ≡ true
      go true o true l = let d = ltb-true (i - s) limit l in takes_in s' i o ∙ lt-ltb (i - s') limit (omega arith)
      go true o false l = absurd (false≢true (sym (takes_in s i o ∙ l) ∙ e))
      go false o b l = absurd (false≢true (sym (takes_none s i o) ∙ e))

  -- whatever the limit, an open transaction ends where it would without one
  pub leaves : (k i s : ℕ) → s ≤ i → joins p.need ok i ≡ false → best p k i s ≡ false
  unfolding joins
  leaves k i s h j = at_0 (ok i) refl (p.need i) refl (p.need (suc i)) refl (ok (suc i)) refl (p.need (suc (suc i))) refl
    where
      at_0 : (o : Bool) → ok i ≡ o → (n : Bool) → p.need i ≡ n → (m : Bool) → p.need (suc i) ≡ m → (u : Bool) → ok (suc i) ≡ u
          → (v : Bool) → p.need (suc (suc i)) ≡ v → best p k i s ≡ false
      at_0 false o n en m em u eu v ev = barred p k i s (takes_none s i o)
      at_0 true o true en m em u eu v ev = absurd (false≢true (sym j ∙ rw (o, en)))
      at_0 true o false en true em u eu v ev = absurd (false≢true (sym j ∙ rw (o, en, em)))
      at_0 true o false en false em false eu v ev = stops p k i s (gap_barred p σ k i s en (takes_none s (suc i) eu))
      at_0 true o false en false em true eu true ev = absurd (false≢true (sym j ∙ simp (o, en, em, eu, ev)))
      at_0 true o false en false em true eu false ev = gap_3_ends p σ later-limited k i s h en em ev

  module _ (a b : ℕ) (ρ : Run p.need ok a b) (inside : b ≤ p.count) where
    -- the run's own task
    abbrev q : Task
    q = up_to p limit b

    -- what is past the run weighs as much whatever is done in it
    abbrev past : ℕ
    past = least_closed p (p.count - b) b

    -- no penalty at its end
    free : penalty (p.cut b) ≡ 0
    free = no_penalty p σ b (left_out p.need ok μ.needed b ρ.ends)

    -- at its end an open transaction ends
    at-end : (k s : ℕ) → s ≤ b → b + k ≡ p.count → least_open p k b s ≡ least_closed p k b
    unfolding least_closed
    at-end zero s h e = free
    at-end (suc k) s h e = best_false p k b s (leaves k b s h ρ.ends) ∙ rw free (omega arith)

    -- both weights, from register x of the run on
    abbrev Same : ℕ → ℕ → ℕ → Type 0
    Same j k x =
        (least_closed p k x ≡ least_closed q j x + past) × ((s : ℕ) → a ≤ s → s < x → least_open p k x s ≡ least_open q j x s + past)

    -- differ by what is past the run
    same : (j k x : ℕ) → x + j ≡ b → x + k ≡ p.count → a ≤ x → Same j k x
    unfolding least_closed
    same zero k x e f h =
        let r : x ≡ b = omega arith in
        let n : k ≡ p.count - b = omega arith in
        rw (r, n) (omega arith, λ s i l. omega (arith, at-end (p.count - b) s (omega arith) (omega arith), free))
    same (suc j) zero x e f h = absurd (omega arith)
    same (suc j) (suc k) x e f h =
        let ih = same j k (suc x) (omega arith) (omega arith) (omega arith) in
        let c = closed (p.need x) refl ih in
        (c, λ s i l. opened s i l (ltb (x - s) limit) refl c ih)
      where
        closed : (n : Bool) → p.need x ≡ n → Same j k (suc x) → least_closed p (suc k) x ≡ least_closed q (suc j) x + past
        closed true n ih = omega (arith, closed_need p k x n, closed_need q j x n, ih.1 x h (omega arith))
        closed false n ih = omega (arith, closed_skip p k x n, closed_skip q j x n, ih.0)

        opened : (s : ℕ) → a ≤ s → s < x → (l : Bool) → ltb (x - s) limit ≡ l → least_closed p (suc k) x ≡ least_closed q (suc j) x + past
            → Same j k (suc x) → least_open p (suc k) x s ≡ least_open q (suc j) x s + past
        opened s i d true l c ih =
            let o = joins_ok p.need ok μ.needed x (ρ.goes x (omega arith) (omega arith)) in
            omega (arith, open_takes p k x s (takes_in s x o ∙ l), open_takes q j x s l, c, ih.1 s i (omega arith))
        opened s i d false l c ih =
            let o = joins_ok p.need ok μ.needed x (ρ.goes x (omega arith) (omega arith)) in
            omega (arith, open_barred p k x s (takes_in s x o ∙ l), open_barred q j x s l, c)

    -- so the choice is the same
    same-best : (j k x s : ℕ) → x + suc j ≡ b → x + suc k ≡ p.count → a ≤ s → s < x → best p k x s ≡ best q j x s
    unfolding best
    same-best j k x s e f i l =
        let o = joins_ok p.need ok μ.needed x (ρ.goes x (omega arith) (omega arith)) in
        let c = (same (suc j) (suc k) x e f (omega arith)).0 in
        let d = (same j k (suc x) (omega arith) (omega arith) (omega arith)).1 s i (omega arith) in
        let u : byte_weight + least_open p k (suc x) s ≡ byte_weight + least_open q j (suc x) s + past = omega arith in
        let v : penalty (p.cut x) + least_closed p (suc k) x ≡ penalty (p.cut x) + least_closed q (suc j) x + past = omega arith in
        rw (takes_in s x o, u, v, ltb_add (byte_weight + least_open q j (suc x) s) (penalty (p.cut x) + least_closed q (suc j) x) past)

    -- and so is the end
    pub same_stop : (j k x s : ℕ) → x + j ≡ b → x + k ≡ p.count → a ≤ s → s < x → stop_of p k x s ≡ stop_of q j x s
    unfolding stop_of
    same_stop zero zero x s e f i l = refl
    same_stop zero (suc k) x s e f i l =
        let r : x ≡ b = omega arith in
        rw (leaves k x s (omega arith) (rw r ρ.ends))
    same_stop (suc j) zero x s e f i l = absurd (omega arith)
    same_stop (suc j) (suc k) x s e f i l =
        rw (same-best j k x s e f i l, same_stop j k (suc x) s (omega arith) (omega arith) i (omega arith))

    -- a run within the limit
    module _ (fits : b ≤ a + limit) where
      -- an open transaction weighs least where it goes on to the end
      abbrev Whole : ℕ → Type 0
      Whole m = (j x s : ℕ) → j ≤ m → x + j ≡ b → a ≤ s → s < x → least_open q j x s ≡ byte_weight * j

      -- to begin anew weighs more
      dearer : (m j x : ℕ) → suc j ≤ suc m → x + suc j ≡ b → a < x → Whole m → byte_weight * suc j < least_closed q (suc j) x
      dearer m j x g e h ih = go (next_in p.need ok μ.needed a b ρ x h (omega arith)) j g e
        where
          at : (j x : ℕ) → j ≤ m → x + suc j ≡ b → a < x → p.need x ≡ true → least_closed q (suc j) x ≡ start_weight + byte_weight + byte_weight * j
          at j x g e h n = closed_need q j x n ∙ rw (ih j (suc x) x g (omega arith) (omega arith) (omega arith))

          one : (j x : ℕ) → j ≤ m → x + suc j ≡ b → a < x → (t : Bool) → p.need x ≡ t → p.need (suc x) ≡ true → suc x < b
              → byte_weight * suc j + byte_weight < least_closed q (suc j) x
          one j x g e h true n v d = omega (arith, at j x g e h n)
          one zero x g e h false n v d = absurd (omega arith)
          one (suc j) x g e h false n v d = omega (arith, closed_skip q (suc j) x n, at j (suc x) (omega arith) (omega arith) (omega arith) v)

          two : (j x : ℕ) → j ≤ m → x + suc j ≡ b → a < x → (t : Bool) → p.need x ≡ t → p.need (suc (suc x)) ≡ true → suc (suc x) < b
              → byte_weight * suc j < least_closed q (suc j) x
          two j x g e h true n v d = omega (arith, at j x g e h n)
          two zero x g e h false n v d = absurd (omega arith)
          two (suc j) x g e h false n v d =
              omega (arith, closed_skip q (suc j) x n, one j (suc x) (omega arith) (omega arith) (omega arith) (p.need (suc x)) refl v d)

          go : NextIn p.need x b → (j : ℕ) → suc j ≤ suc m → x + suc j ≡ b → byte_weight * suc j < least_closed q (suc j) x
          go (here n) j g e = omega (arith, at j x (omega arith) e h n)
          go (next n d) j g e = omega (arith, one j x (omega arith) e h (p.need x) refl n d)
          go (after n d) j g e = two j x (omega arith) e h (p.need x) refl n d

      -- so for all its registers
      whole : (m : ℕ) → Whole m
      unfolding least_closed
      whole zero zero x s g e i l = let r : x ≡ b = omega arith in rw (r, free)
      whole zero (suc j) x s g e i l = absurd (omega arith)
      whole (suc m) zero x s g e i l = let r : x ≡ b = omega arith in rw (r, free)
      whole (suc m) (suc j) x s g e i l =
          omega (
            arith,
            open_takes q j x s (lt-ltb (x - s) limit (omega arith)),
            whole m j (suc x) s (omega arith) (omega arith) i (omega arith),
            dearer m j x g e (omega arith) (whole m),
          )

      -- so it goes on
      goes_on : (j x s : ℕ) → x + suc j ≡ b → a ≤ s → s < x → best q j x s ≡ true
      unfolding best
      goes_on j x s e i l =
          rw (
            lt-ltb (x - s) limit (omega arith),
            lt-ltb (byte_weight + least_open q j (suc x) s) (penalty (p.cut x) + least_closed q (suc j) x)
                (omega (arith, whole j j (suc x) s (omega arith) (omega arith) i (omega arith), dearer j j x (omega arith) e (omega arith) (whole j))),
          )

      -- up to the end of the run
      whole-stop : (j x s : ℕ) → x + j ≡ b → a ≤ s → s < x → stop_of q j x s ≡ b
      unfolding stop_of
      whole-stop zero x s e i l = omega arith
      whole-stop (suc j) x s e i l = rw (goes_on j x s e i l) (whole-stop j (suc x) s (omega arith) i (omega arith))

      -- a run within the limit is one transaction
      pub whole_run : (k : ℕ) → a + suc k ≡ p.count → stop_of p k (suc a) a ≡ b
      whole_run k f =
          let h = ρ.some in
          same_stop (b - suc a) k (suc a) a (omega arith) (omega arith) (omega arith) (omega arith)
          ∙ whole-stop (b - suc a) (suc a) a (omega arith) (omega arith) (omega arith)
