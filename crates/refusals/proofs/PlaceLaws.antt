-- Places that pass a test: where rows agree at each of them the first that holds is the same, and a refusal is at one of them. Assumes nothing.
use mathlib.Core.Path.{◌≡◌, refl, sym, ap₂, ◌∙◌}
use mathlib.Core.Bool.{Bool, true, false, cond, ◌&&◌, and-eq-true_iff}
use mathlib.Core.List.{List, [], ◌∷◌}
use Prim.Native.Nat.{ℕ}
use native.Mathlib.Omega.{arith}
use Rattle.refusals.specs.Verdict.{refused_at}
use Rattle.refusals.specs.Order.{Place, first_of}

-- some places pass a test of row and field
abbrev pub all_pass : (ℕ → ℕ → Bool) → List Place → Bool
all_pass test [] = true
all_pass test (p ∷ ps) = test p.row p.field && all_pass test ps

module _ (test : ℕ → ℕ → Bool) where
  -- where rows agree at each, the first that holds is the same
  pub same_first : {A : Type 0} (rows others : ℕ → ℕ → Bool) → ((n f : ℕ) → test n f ≡ true → rows n f ≡ others n f)
      → (ps : List Place) (a : A) → all_pass test ps ≡ true → first_of rows ps a ≡ first_of others ps a
  unfolding first_of
  same_first rows others agree [] a e = refl
  same_first rows others agree (p ∷ ps) a e =
      let q = (and-eq-true_iff (test p.row p.field) (all_pass test ps)).0 e in
      rw (agree p.row p.field q.0, same_first rows others agree ps a q.1)

  -- a refusal is at one of them
  pub refused-at : (rows : ℕ → ℕ → Bool) (ps : List Place) (n f : ℕ) → all_pass test ps ≡ true → first_of rows ps (tt {0}) ≡ refused_at n f → test n f ≡ true
  unfolding first_of
  refused-at rows [] n f t e = let z : ◌≡◌ {A = ℕ} 0 1 = cc in absurd (omega arith)
  refused-at rows (p ∷ ps) n f t e =
      let q = (and-eq-true_iff (test p.row p.field) (all_pass test ps)).0 t in
      by (rows p.row p.field) e q.0 (refused-at rows ps n f q.1)
    where
      by : (b : Bool) → cond b (refused_at p.row p.field) (first_of rows ps (tt {0})) ≡ refused_at n f → test p.row p.field ≡ true
          → (first_of rows ps (tt {0}) ≡ refused_at n f → test n f ≡ true) → test n f ≡ true
      by true e h rest =
          let r : p.row ≡ n = cc in
          let g : p.field ≡ f = cc in
          sym (ap₂ test r g) ∙ h
      by false e h rest = rest e
