-- Candidates: the highest is the first least of the registers up to another, and what they are with one register more. Assumes nothing.
use mathlib.Core.Path.{◌≡◌, refl, sym, ap, ◌∙◌}
use mathlib.Core.Logic.{◌⊎◌, inl, inr}
use mathlib.Core.Bool.{Bool, true, false, cond, not, false≢true, ◌&&◌, ◌||◌}
use Prim.Native.Nat.{ℕ, zero, suc, ◌+◌, ◌-◌, ◌*◌, ◌%◌, ◌^◌, ◌≤◌, ◌<◌}
use native.Mathlib.Omega.{arith}
use lib.Bits.{bit_and, and_le_l}
use lib.Dec.{leb, ltb, eqb}
use borrow.Author.Tests.{ltb-true, ltb-false, leb-true, leb-false, eq-eqb, eqb-true, not-false}
use Rattle.bits.specs.Maps.{has}
use Rattle.bits.proofs.SetLaws.{has_and, has-past, has_in}
use Rattle.bus.proofs.After.{later}
use Rattle.cutting.specs.Cuts.{first_least, Candidates, Highest}
use Rattle.cutting.proofs.LowestLaws.{First}
use Rattle.cutting.proofs.SpanLaws.{one_has, one_less}

-- either of two, where the second is true
or-true : (b : Bool) → (b || true) ≡ true
or-true true = refl
or-true false = refl

-- ---- the first least of some numbers

-- what it is: less than those before it, and no more than those after it
pub record FirstLeast (f : ℕ → ℕ) (k x r : ℕ) : Type 0 where
  pub from : x ≤ r
  pub to : r ≤ x + k
  pub before : (j : ℕ) → x ≤ j → j < r → f r < f j
  pub after : (j : ℕ) → r ≤ j → j ≤ x + k → f r ≤ f j

-- it is that
pub first-least : (f : ℕ → ℕ) (k x : ℕ) → FirstLeast f k x (first_least f k x)
unfolding first_least
first-least f zero x = record {
  from = omega arith;
  to = omega arith;
  before = λ j a b. absurd (omega arith);
  after = λ j a b. let e : j ≡ x = omega arith in rw e (omega arith);
}
first-least f (suc k) x = go (leb (f x) (f (first_least f k (suc x)))) refl (first-least f k (suc x))
  where
    go : (b : Bool) → leb (f x) (f (first_least f k (suc x))) ≡ b → FirstLeast f k (suc x) (first_least f k (suc x))
        → FirstLeast f (suc k) x (cond b x (first_least f k (suc x)))
    go true u l =
        let d = leb-true (f x) (f (first_least f k (suc x))) u in
        record {
          from = omega arith;
          to = omega arith;
          before = λ j a b. absurd (omega arith);
          after = λ j a b. here j b (later x j a) d l;
        }
      where
        here : (j : ℕ) → j ≤ x + suc k → (j ≡ x) ⊎ (suc x ≤ j) → f x ≤ f (first_least f k (suc x)) → FirstLeast f k (suc x) (first_least f k (suc x))
            → f x ≤ f j
        here j b (inl e) d l = rw e (omega arith)
        here j b (inr a) d l = split (ltb j (first_least f k (suc x))) refl
          where
            split : (c : Bool) → ltb j (first_least f k (suc x)) ≡ c → f x ≤ f j
            split true e = omega (arith, l.before j a (ltb-true j (first_least f k (suc x)) e))
            split false e = omega (arith, l.after j (ltb-false j (first_least f k (suc x)) e) (omega arith))
    go false u l =
        let d = leb-false (f x) (f (first_least f k (suc x))) u in
        let g = l.from in
        let h = l.to in
        record {
          from = omega arith;
          to = omega arith;
          before = λ j a b. front j b (later x j a) d l;
          after = λ j a b. l.after j a (omega arith);
        }
      where
        front : (j : ℕ) → j < first_least f k (suc x) → (j ≡ x) ⊎ (suc x ≤ j) → f (first_least f k (suc x)) < f x
            → FirstLeast f k (suc x) (first_least f k (suc x)) → f (first_least f k (suc x)) < f j
        front j b (inl e) d l = rw e d
        front j b (inr a) d l = l.before j a b

-- the highest candidate is the first least
pub highest_least : (f : ℕ → ℕ) (map from to last r : ℕ) → from ≤ last → last ≤ to → Candidates f map from to → Highest map last r
    → r ≡ first_least f (last - from) from
highest_least f map from to last r a b c h = go (ltb r (first_least f (last - from) from)) refl (ltb (first_least f (last - from) from) r) refl
  where
    go : (p : Bool) → ltb r (first_least f (last - from) from) ≡ p → (q : Bool) → ltb (first_least f (last - from) from) r ≡ q
        → r ≡ first_least f (last - from) from
    go true u q v =
        let l = first-least f (last - from) from in
        let d = ltb-true r (first_least f (last - from) from) u in
        let t = l.to in
        absurd (false≢true (sym (h.none (first_least f (last - from) from) d (omega arith))
        ∙ c.all (first_least f (last - from) from) l.from (omega arith) l.before))
    go false u true v =
        let l = first-least f (last - from) from in
        let d = ltb-true (first_least f (last - from) from) r v in
        let n = h.near in
        absurd (omega (arith, c.less r h.is (first_least f (last - from) from) l.from d, l.after r (omega arith) (omega arith)))
    go false u false v =
        let d = ltb-false r (first_least f (last - from) from) u in
        let e = ltb-false (first_least f (last - from) from) r v in
        omega arith

-- ---- the candidates

-- of numbers that are the same
pub candidates_alike : (f g : ℕ → ℕ) (map from to : ℕ) → ((i : ℕ) → from ≤ i → i ≤ to → f i ≡ g i) → Candidates f map from to → Candidates g map from to
candidates_alike f g map from to s c = record {
  inside = c.inside;
  less = λ i h j a b. let n = c.inside i h in omega (arith, c.less i h j a b, s i n.0 n.1, s j a (omega (arith, n.1)));
  all = λ i a b h. c.all i a b (λ j d e. omega (arith, h j d e, s i a b, s j d (omega arith)));
}

-- of one number alone
pub candidates_one : (f : ℕ → ℕ) (at : ℕ) → at < 64 → Candidates f ((1 * 2 ^ at) % 2 ^ 64) at at
candidates_one f at small = record {
  inside = λ i h. let e = eqb-true at i (sym (one_has at i small) ∙ h) in (omega arith, omega arith);
  less = λ i h j a b. let e = eqb-true at i (sym (one_has at i small) ∙ h) in absurd (omega arith);
  all = λ i a b h. one_has at i small ∙ eq-eqb at i (omega arith);
}

-- the first of the numbers is one
pub candidates_first : (f : ℕ → ℕ) (map from to : ℕ) → from ≤ to → Candidates f map from to → has map from ≡ true
candidates_first f map from to h c = c.all from (omega arith) h (λ j a b. absurd (omega arith))

-- a map without a register
abbrev without : ℕ → ℕ → ℕ
without map i = bit_and map (2 ^ 64 - 1 - (1 * 2 ^ i) % 2 ^ 64)

-- what is left of a map while its lowest registers go, at which f is no less than at register `at`
pub record Kept (f : ℕ → ℕ) (map at kept : ℕ) : Type 0 where
  pub small : kept ≤ map
  pub of : (i : ℕ) → has kept i ≡ true → has map i ≡ true
  pub gone : (i : ℕ) → has map i ≡ true → has kept i ≡ false → f at ≤ f i

-- at first the map
pub kept-all : (f : ℕ → ℕ) (map at : ℕ) → Kept f map at map
kept-all f map at = record { small = omega arith; of = λ i h. h; gone = λ i h k. absurd (false≢true (sym k ∙ h)) }

-- and then one less
pub kept_less : (f : ℕ → ℕ) (map at kept low : ℕ) → map < 2 ^ 64 → low < 64 → f at ≤ f low → Kept f map at kept
    → Kept f map at (without kept low)
kept_less f map at kept low small h d k = record {
  small = omega (arith, k.small, and_le_l kept (2 ^ 64 - 1 - (1 * 2 ^ low) % 2 ^ 64));
  of = λ i e. still i (has kept i) refl (sym (has_and kept (2 ^ 64 - 1 - (1 * 2 ^ low) % 2 ^ 64) i) ∙ e);
  gone = λ i m e. left i m (has kept i) refl e;
}
  where
    still : (i : ℕ) (b : Bool) → has kept i ≡ b → (b && has (2 ^ 64 - 1 - (1 * 2 ^ low) % 2 ^ 64) i) ≡ true → has map i ≡ true
    still i true e u = k.of i e
    still i false e u = absurd (false≢true u)

    left : (i : ℕ) → has map i ≡ true → (b : Bool) → has kept i ≡ b → has (without kept low) i ≡ false → f at ≤ f i
    left i m false e u = k.gone i m e
    left i m true e u =
        let n = sym (one_less kept low i h (has_in 64 kept i (omega (arith, k.small)) e)) ∙ u in
        let same = eqb-true low i (not-false (eqb low i) (ap (λ (b : Bool). b && not (eqb low i)) (sym e) ∙ n)) in
        rw (← same) d

-- the map gets smaller
pub fewer : (kept low : ℕ) → low < 64 → has kept low ≡ true → without kept low < kept
fewer kept low h e = go (later (without kept low) kept (and_le_l kept (2 ^ 64 - 1 - (1 * 2 ^ low) % 2 ^ 64)))
  where
    gone : has (without kept low) low ≡ false
    gone = one_less kept low low h h ∙ ap (λ (b : Bool). b && not (eqb low low)) e ∙ ap not (eq-eqb low low refl)

    go : (kept ≡ without kept low) ⊎ (suc (without kept low) ≤ kept) → without kept low < kept
    go (inl s) = absurd (false≢true (sym gone ∙ sym (ap (λ (m : ℕ). has m low) s) ∙ e))
    go (inr s) = s

-- those that are left are candidates with register `at`, where each is less than that
kept_more : (f : ℕ → ℕ) (map at kept m end : ℕ) → at ≤ end → Kept f map at kept → ((i : ℕ) → has kept i ≡ true → f i < f at)
    → ((i : ℕ) → has m i ≡ (has kept i || eqb at i)) → Candidates f map (suc at) end → Candidates f m at end
kept_more f map at kept m end h k l s c = record {
  inside = λ i e. within i (has kept i) refl (sym (s i) ∙ e);
  less = λ i e j a b. under i j a b (has kept i) refl (sym (s i) ∙ e) (later at j a);
  all = λ i a b g. s i ∙ is i b g (later at i a);
}
  where
    within : (i : ℕ) (b : Bool) → has kept i ≡ b → (b || eqb at i) ≡ true → (at ≤ i) × (i ≤ end)
    within i true e u = let n = c.inside i (k.of i e) in (omega (arith, n.0), n.1)
    within i false e u = let n = eqb-true at i u in (omega arith, omega arith)

    under : (i j : ℕ) → at ≤ j → j < i → (b : Bool) → has kept i ≡ b → (b || eqb at i) ≡ true → (j ≡ at) ⊎ (suc at ≤ j) → f i < f j
    under i j a b true e u (inl n) = rw n (l i e)
    under i j a b true e u (inr n) = c.less i (k.of i e) j n b
    under i j a b false e u n = let n = eqb-true at i u in absurd (omega arith)

    is : (i : ℕ) → i ≤ end → ((j : ℕ) → at ≤ j → j < i → f i < f j) → (i ≡ at) ⊎ (suc at ≤ i) → (has kept i || eqb at i) ≡ true
    is i b g (inl n) = rw (eq-eqb at i (sym n)) (or-true (has kept i))
    is i b g (inr n) = rw (left i b g n (has kept i) refl)
      where
        left : (i : ℕ) → i ≤ end → ((j : ℕ) → at ≤ j → j < i → f i < f j) → suc at ≤ i → (x : Bool) → has kept i ≡ x → has kept i ≡ true
        left i b g n true e = e
        left i b g n false e =
            absurd (omega (arith, k.gone i (c.all i n b (λ j p q. g j (omega arith) q)) e, g at (omega arith) n))

-- where the lowest that is left is less, each is
pub kept_low : (f : ℕ → ℕ) (map at kept low m end : ℕ) → at ≤ end → First kept low → f low < f at → Kept f map at kept
    → ((i : ℕ) → has m i ≡ (has kept i || eqb at i)) → Candidates f map (suc at) end → Candidates f m at end
kept_low f map at kept low m end h z d k s c = kept_more f map at kept m end h k (λ i e. each i e (ltb i low) refl) s c
  where
    each : (i : ℕ) → has kept i ≡ true → (b : Bool) → ltb i low ≡ b → f i < f at
    each i e true u = absurd (false≢true (sym (z.clear i (ltb-true i low u)) ∙ e))
    each i e false u = go (later low i (ltb-false i low u))
      where
        go : (i ≡ low) ⊎ (suc low ≤ i) → f i < f at
        go (inl n) = rw n d
        go (inr n) = omega (arith, d, c.less i (k.of i e) low (c.inside low (k.of low z.first)).0 n)

-- where none is left, register `at` alone is a candidate
pub kept-none : (f : ℕ → ℕ) (map at kept end : ℕ) → at ≤ end → at < 64 → kept ≡ 0 → Kept f map at kept
    → Candidates f map (suc at) end → Candidates f ((1 * 2 ^ at) % 2 ^ 64) at end
kept-none f map at kept end h small e k c =
    kept_more f map at kept ((1 * 2 ^ at) % 2 ^ 64) end h k (λ i u. absurd (false≢true (sym (none i) ∙ u)))
    (λ i. one_has at i small ∙ ap (λ (b : Bool). b || eqb at i) (sym (none i))) c
  where
    none : (i : ℕ) → has kept i ≡ false
    none i = ap (λ (m : ℕ). has m i) e ∙ has-past 0 0 i (omega arith) (omega arith)
