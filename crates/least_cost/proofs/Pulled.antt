-- A list with one of its transactions set apart. Assumes nothing.
use mathlib.Core.Path.{◌≡◌, refl}
use mathlib.Core.Logic.{◌⊎◌, inl, inr, ⊎_elim}
use mathlib.Core.List.{List, [], ◌∷◌}
use Prim.Native.Nat.{ℕ, ◌+◌}
use native.Mathlib.Omega.{arith}
use Rattle.bus.specs.Transactions.{Transaction, Touches, Touched}
use Rattle.least_cost.specs.Weight.{weight, weights}
use Rattle.bits.specs.Lists.{Every}

-- one of a list's transactions, that touches register r, and the others, where all have the property P
pub record Pulled (P : Transaction → Type 0) (ts : List Transaction) (r : ℕ) : Type 0 where
  pub transaction : Transaction
  pub others : List Transaction
  pub touch : Touches transaction r
  pub has : P transaction
  pub every : Every P others
  pub weighs : weights ts ≡ weight transaction + weights others
  pub splits : (x : ℕ) → Touched ts x → Touches transaction x ⊎ Touched others x
  pub back : (x : ℕ) → Touches transaction x → Touched ts x

module _ (P : Transaction → Type 0) (r : ℕ) where
  -- the first one
  unfoldable pub pull_first : (t : Transaction) (ts : List Transaction) → Every P (t ∷ ts) → Touches t r → Pulled P (t ∷ ts) r
  unfolding weights
  pull_first t ts h u = record {
    transaction = t;
    others = ts;
    touch = u;
    has = h.0;
    every = h.1;
    weighs = refl;
    splits = λ x v. v;
    back = λ x v. inl v;
  }

  -- one of the rest
  unfoldable pub pull_later : (t : Transaction) (ts : List Transaction) → P t → Pulled P ts r → Pulled P (t ∷ ts) r
  unfolding weights
  pull_later t ts h q = record {
    transaction = q.transaction;
    others = t ∷ q.others;
    touch = q.touch;
    has = q.has;
    every = (h, q.every);
    weighs = omega (arith, q.weighs);
    splits = λ x. ⊎_elim (λ u. inr (inl u)) (λ u. ⊎_elim inl (λ w. inr (inr w)) (q.splits x u));
    back = λ x v. inr (q.back x v);
  }

  -- where a register is touched there is one
  pub pulled : (ts : List Transaction) → Every P ts → Touched ts r → Pulled P ts r
  pulled [] h u = elim u [ ]
  pulled (t ∷ ts) h (inl u) = pull_first t ts h u
  pulled (t ∷ ts) h (inr u) = pull_later t ts h.0 (pulled ts h.1 u)
