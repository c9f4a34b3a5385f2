-- Verdicts one after the other. Assumes nothing.
use mathlib.Core.Path.{◌≡◌, refl}
use mathlib.Core.Bool.{Bool, true, false, cond}
use Prim.Native.Nat.{ℕ}
use Rattle.refusals.specs.Verdict.{Verdict, good, refused_at, after, fault_where}

-- nothing after a verdict
pub after-good : (v : Verdict (Unit {0})) → after v (good tt) ≡ v
after-good (good tt) = refl
after-good (refused_at n f) = refl

-- three in a row
pub after_assoc : {A B C : Type 0} (u : Verdict A) (v : Verdict B) (w : Verdict C) → after (after u v) w ≡ after u (after v w)
after_assoc (good a) v w = refl
after_assoc (refused_at n f) v w = refl

-- a value that is passed over
pub after-value : {A B C : Type 0} (u : Verdict A) (b : B) (w : Verdict C) → after (after u (good b)) w ≡ after u w
after-value (good a) b w = refl
after-value (refused_at n f) b w = refl

-- a row that is tested before others
pub row_before : {A : Type 0} (b : Bool) (n f : ℕ) (v : Verdict A) → cond b (refused_at n f) v ≡ after (fault_where b n f) v
row_before true n f v = refl
row_before false n f v = refl

-- a row that holds, before others
pub row-holds : {A : Type 0} (n f : ℕ) {b : Bool} (v : Verdict A) → b ≡ true → after (fault_where b n f) v ≡ refused_at n f
row-holds n f v e = rw e

-- a row that does not
pub row_fails : {A : Type 0} (n f : ℕ) {b : Bool} (v : Verdict A) → b ≡ false → after (fault_where b n f) v ≡ v
row_fails n f v e = rw e
