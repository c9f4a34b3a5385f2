-- Document 02, P6: where ends weigh the same, the transaction is the shorter one.
use Rattle.std.specs.Prelude.{◌≡◌, true, false, cond, ℕ, zero, suc, ◌*◌, ◌≤◌, ◌<◌, leb}
use Rattle.bits.specs.Maps.{has}

-- the first of the numbers x to x + k at which f is least
unfoldable pub first_least : (ℕ → ℕ) → ℕ → ℕ → ℕ
first_least f zero x = x
first_least f (suc k) x = cond (leb (f x) (f (first_least f k (suc x)))) x (first_least f k (suc x))

-- the candidates: a map has those of the registers from one to another at which f is less than at each before
pub record Candidates (f : ℕ → ℕ) (map from to : ℕ) : Type 0 where
  pub inside : (i : ℕ) → has map i ≡ true → (from ≤ i) × (i ≤ to)
  pub less : (i : ℕ) → has map i ≡ true → (j : ℕ) → from ≤ j → j < i → f i < f j
  pub all : (i : ℕ) → from ≤ i → i ≤ to → ((j : ℕ) → from ≤ j → j < i → f i < f j) → has map i ≡ true

-- the highest register of a map that is not past another
pub record Highest (map last r : ℕ) : Type 0 where
  pub near : r ≤ last
  pub is : has map r ≡ true
  pub none : (i : ℕ) → r < i → i ≤ last → has map i ≡ false

-- more than the registers of a map can weigh
abbrev pub most_weight : ℕ
most_weight = 64 * 1_100_000
