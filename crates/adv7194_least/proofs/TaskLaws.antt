-- The task of planning is a sound one in which the limit is in force, and it allows whatever keeps the three rules and the limit and touches only registers
-- that may be written. Assumes nothing.
use mathlib.Core.Path.{◌≡◌, refl, sym, ◌∙◌}
use mathlib.Core.Logic.{◌⊎◌, inl, inr, ⊎_elim}
use mathlib.Core.Bool.{Bool, true, false, ◌&&◌, ◌||◌, or-true}
use mathlib.Core.List.{List, [], ◌∷◌}
use Prim.Native.Nat.{ℕ, suc, ◌-◌, ◌≤◌, ◌<◌}
use native.Mathlib.Omega.{arith}
use lib.Dec.{ltb}
use borrow.Author.Tests.{ltb-true, lt-ltb, not-false}
use Rattle.rounding.proofs.First.{flag}
use Rattle.bus.specs.Transactions.{Transaction, size, end, Touches, Touched}
use Rattle.adv7194_bus.specs.Limit.{least_limit}
use Rattle.adv7194_bus.specs.Rules.{Rules}
use Rattle.least_cost.specs.Task.{Allowed, Covers, Stop, Sound, Limited}
use Rattle.bus.proofs.After.{later}
use Rattle.bus.specs.Registers.{among}
use Rattle.adv7194_least.specs.Plan.{writable, word_in, with_word, task_for}
use Rattle.bus.proofs.RegisterLaws.{among_true, among_in, among_out, among?}
use Rattle.bits.proofs.FlagLaws.{both_true}
use Rattle.adv7194_least.proofs.Registers.{Writable, writable_facts}
use Rattle.bits.specs.Lists.{Every}

-- the registers of a transaction that keeps the rules may be written
pub rules-writable : (t : Transaction) → Rules t → (x : ℕ) → Touches t x → Writable x
rules-writable t h x u = record {
  inside = (h.inside x u).0;
  kept = (h.inside x u).1;
  quiet = ⊎_elim (λ c. absurd (h.captions x u c)) (λ c. c) (among? 0x11 0x14 x);
}

-- a transaction with data does not end inside the word
ends-outside : (t : Transaction) → Rules t → (x : ℕ) → Touches t x → (end t < 0x0d) ⊎ (0x0f < end t)
ends-outside t h x u =
    ⊎_elim
    (λ a. let c = h.whole (end t - 1) (omega arith) (omega arith) 0x0f (omega arith) in absurd (omega arith))
    (λ a. a) (among? 0x0d 0x0f (end t))

module _ (must : ℕ → Bool) where
  -- ---- which registers are needed

  -- a register of the word is needed where one of them must be written, any other where it must be
  pub need-word : (x : ℕ) → 0x0c ≤ x → x ≤ 0x0f → with_word must x ≡ word_in must
  need-word x a b = rw (among_in 0x0c 0x0f x a b)

  pub need_other : (x : ℕ) → (x < 0x0c) ⊎ (0x0f < x) → with_word must x ≡ must x
  need_other x h = rw (among_out 0x0c 0x0f x h)

  -- a register that must be written, in the word
  record Found : Type 0 where
    at : ℕ
    from : 0x0c ≤ at
    to : at ≤ 0x0f
    is : must at ≡ true

  -- where the word is needed there is one
  found : word_in must ≡ true → Found
  found w = first (flag (must 0x0c)) (flag (must 0x0d)) (flag (must 0x0e)) (flag (must 0x0f))
    where
      first : (must 0x0c ≡ true) ⊎ (must 0x0c ≡ false) → (must 0x0d ≡ true) ⊎ (must 0x0d ≡ false)
          → (must 0x0e ≡ true) ⊎ (must 0x0e ≡ false) → (must 0x0f ≡ true) ⊎ (must 0x0f ≡ false) → Found
      first (inl a) b c d = record { at = 0x0c; from = omega arith; to = omega arith; is = a }
      first (inr a) (inl b) c d = record { at = 0x0d; from = omega arith; to = omega arith; is = b }
      first (inr a) (inr b) (inl c) d = record { at = 0x0e; from = omega arith; to = omega arith; is = c }
      first (inr a) (inr b) (inr c) d = record { at = 0x0f; from = omega arith; to = omega arith; is = sym (rw (a, b, c)) ∙ w }

  -- and back
  word_in_lem : (x : ℕ) → (0x0c ≤ x) × (x ≤ 0x0f) → must x ≡ true → word_in must ≡ true
  word_in_lem x a m = from_c (later 0x0c x a.0)
    where
      from_e : (x ≡ 0x0e) ⊎ (0x0f ≤ x) → (must 0x0e || must 0x0f) ≡ true
      from_e (inl e) = rw (rw e at m)
      from_e (inr h) = let e : x ≡ 0x0f = omega arith in rw (rw e at m) (or-true (must 0x0e))

      from_d : (x ≡ 0x0d) ⊎ (0x0e ≤ x) → (must 0x0d || (must 0x0e || must 0x0f)) ≡ true
      from_d (inl e) = rw (rw e at m)
      from_d (inr h) = rw (from_e (later 0x0e x h)) (or-true (must 0x0d))

      from_c : (x ≡ 0x0c) ⊎ (0x0d ≤ x) → word_in must ≡ true
      from_c (inl e) = rw (rw e at m)
      from_c (inr h) = rw (from_d (later 0x0d x h)) (or-true (must 0x0c))

  -- what must be written is needed
  pub must-needed : (x : ℕ) → must x ≡ true → with_word must x ≡ true
  must-needed x m =
      ⊎_elim (λ a. need-word x a.0 a.1 ∙ word_in_lem x a m) (λ a. need_other x a ∙ m) (among? 0x0c 0x0f x)

  -- a list that touches one register of the word touches all four
  whole_word : (ts : List Transaction) → Every Rules ts → (x y : ℕ) → (0x0c ≤ x) × (x ≤ 0x0f) → (0x0c ≤ y) × (y ≤ 0x0f) → Touched ts y → Touched ts x
  whole_word [] hs x y a b u = elim u [ ]
  whole_word (t ∷ ts) (h, hs) x y a b (inl u) = inl (h.whole y u b x a)
  whole_word (t ∷ ts) (h, hs) x y a b (inr u) = inr (whole_word ts hs x y a b u)

  -- a list that keeps the rules and touches what must be written touches what is needed
  pub touches-needed : (ts : List Transaction) → Every Rules ts → ((x : ℕ) → must x ≡ true → Touched ts x) → (x : ℕ) → with_word must x ≡ true → Touched ts x
  touches-needed ts all f x n = split (among? 0x0c 0x0f x)
    where
      split : ((0x0c ≤ x) × (x ≤ 0x0f)) ⊎ ((x < 0x0c) ⊎ (0x0f < x)) → Touched ts x
      split (inl a) =
          let q = found (sym (need-word x a.0 a.1) ∙ n) in
          whole_word ts all x q.at a (q.from, q.to) (f q.at q.is)
      split (inr a) = f x (sym (need_other x a) ∙ n)

-- what a task is made from: a limit that is no shorter than the word, and registers that may be written, among them those that must be and the word's
pub record Permits (limit : ℕ) (must may : ℕ → Bool) : Type 0 where
  pub least : least_limit ≤ limit
  pub writes : (x : ℕ) → may x ≡ true → writable x ≡ true
  pub musts : (x : ℕ) → must x ≡ true → may x ≡ true
  pub word : (x : ℕ) → 0x0c ≤ x → x ≤ 0x0f → may x ≡ true

module _ (limit : ℕ) (must may : ℕ → Bool) where
  -- ---- what a transaction may take, and where it may end

  -- it may take what may be written, within the limit
  takes_from : (s x : ℕ) → may x ≡ true → x - s < limit → (task_for limit must may).takes s x ≡ true
  unfolding task_for
  takes_from s x m h = rw (m, lt-ltb (x - s) limit h)

  pub takes_facts : (s x : ℕ) → (task_for limit must may).takes s x ≡ true → (may x ≡ true) × (x - s < limit)
  unfolding task_for
  takes_facts s x e = let q = both_true (may x) (ltb (x - s) limit) e in (q.0, ltb-true (x - s) limit q.1)

  -- a transaction may not end inside a needed word, and may end anywhere else
  cut_false : (x : ℕ) → (task_for limit must may).cut x ≡ false → ((0x0d ≤ x) × (x ≤ 0x0f)) × (word_in must ≡ true)
  unfolding task_for
  cut_false x e =
      let q = both_true (among 0x0d 0x0f x) (word_in must) (not-false (among 0x0d 0x0f x && word_in must) e) in
      (among_true 0x0d 0x0f x q.0, q.1)

  pub cut_inside : (x : ℕ) → 0x0d ≤ x → x ≤ 0x0f → word_in must ≡ true → (task_for limit must may).cut x ≡ false
  unfolding task_for
  cut_inside x a b w = rw (among_in 0x0d 0x0f x a b, w)

  cut-outside : (x : ℕ) → (x < 0x0d) ⊎ (0x0f < x) → (task_for limit must may).cut x ≡ true
  unfolding task_for
  cut-outside x h = rw (among_out 0x0d 0x0f x h)

  -- ---- what keeps the rules and the limit and touches only what may be written is allowed

  pub allowed : (t : Transaction) → Rules t → size t ≤ limit → ((x : ℕ) → Touches t x → may x ≡ true) → Allowed (task_for limit must may) t
  unfolding task_for
  allowed t h l m = record {
    within = λ x u. (h.inside x u).0;
    takes = λ s u x v w. takes_from s x (m x (omega arith)) (omega arith);
    ends = λ x u. cut-outside (end t) (ends-outside t h x u);
  }

  -- and covers the task where it touches what must be written
  pub covers-task : (ts : List Transaction) → Every Rules ts → ((x : ℕ) → must x ≡ true → Touched ts x) → Covers (task_for limit must may) ts
  unfolding task_for
  covers-task ts all f x g n = touches-needed must ts all f x n

  -- ---- soundness

  module _ (π : Permits limit must may) where
    -- every needed register may be written
    pub needed-may : (x : ℕ) → with_word must x ≡ true → may x ≡ true
    needed-may x n =
        ⊎_elim (λ a. π.word x a.0 a.1) (λ a. π.musts x (sym (need_other must x a) ∙ n)) (among? 0x0c 0x0f x)

    -- what may be written is one of the chip's registers, and no caption register
    pub may_facts : (x : ℕ) → may x ≡ true → Writable x
    may_facts x m = writable_facts x (π.writes x m)

    -- where a transaction from a needed register may end
    stop_of_lem : (i : ℕ) → with_word must i ≡ true → Stop (task_for limit must may) i
    unfolding task_for
    stop_of_lem i n = split (among? 0x0c 0x0f i)
      where
        past : (i < 0x0c) ⊎ (0x0f < i) → (suc i < 0x0d) ⊎ (0x0f < suc i)
        past (inl a) = inl (omega arith)
        past (inr a) = inr (omega arith)

        split : ((0x0c ≤ i) × (i ≤ 0x0f)) ⊎ ((i < 0x0c) ⊎ (0x0f < i)) → Stop (task_for limit must may) i
        split (inl a) = record {
          at = 0x10;
          after = omega arith;
          takes = λ x u v. takes_from i x (π.word x (omega arith) (omega arith)) (omega (arith, π.least));
          cut = cut-outside 0x10 (inr (omega arith));
        }
        split (inr a) = record {
          at = suc i;
          after = omega arith;
          takes = λ x u v. absurd (omega arith);
          cut = cut-outside (suc i) (past a);
        }

    -- the task is sound
    pub sound : Sound (task_for limit must may)
    unfolding task_for
    sound = record {
      need_in = λ x n. (may_facts x (needed-may x n)).inside;
      takes_in = λ s x e. (may_facts x (takes_facts s x e).0).inside;
      cut_first = cut-outside 0 (inl (omega arith));
      cut_before = λ x e. let q = cut_false (suc x) e in need-word must x (omega arith) (omega arith) ∙ q.1;
      cut_after = λ x e. let q = cut_false x e in need-word must x (omega arith) (omega arith) ∙ q.1;
      small = omega arith;
      stop = stop_of_lem;
    }

    -- and the limit is in force
    pub limited : Limited (task_for limit must may) may limit
    unfolding task_for
    limited = record { takes = λ s x. refl; needed = needed-may }
