-- A line begins with a word as the slice's own test says; the words of the lines PLAN and REFUSED. Assumes nothing.
use mathlib.Core.Path.{◌≡◌, refl, ap}
use mathlib.Core.Bool.{Bool, ◌&&◌}
use mathlib.Core.List.{List, [], ◌∷◌}
use Prim.Native.Nat.{ℕ}
use lib.Dec.{eqb}
use Rattle.std.specs.Prelude.{nat_eq}
use Rattle.std.specs.List.{starts_with}
use Rattle.listing.specs.declared.Word.TheVariants.{Plan, Refused}
use Rattle.listing.specs.Lines.{begins, counts_line, plan_line, refused_line}
use Rattle.listing.specs.Written.{word_of}

-- the slice's own test is the definition
pub starts_begins : (word line : List ℕ) → starts_with nat_eq line word ≡ begins word line
unfolding begins
starts_begins [] line = refl
starts_begins (x ∷ word) [] = refl
starts_begins (x ∷ word) (y ∷ line) = ap (λ (b : Bool). eqb x y && b) (starts_begins word line)

-- the words of the two lines
pub plan-word : (transactions bytes : ℕ) → word_of (plan_line transactions bytes) ≡ Plan
unfolding word_of begins counts_line
plan-word transactions bytes = refl

pub refused-word : (number field : ℕ) → word_of (refused_line number field) ≡ Refused
unfolding word_of begins counts_line
refused-word number field = refl
