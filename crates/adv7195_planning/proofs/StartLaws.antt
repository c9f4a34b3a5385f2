-- The first least of some numbers, found number by number. Assumes nothing.
use mathlib.Core.Path.{◌≡◌, refl}
use mathlib.Core.Bool.{Bool, true, false}
use mathlib.Core.List.{List}
use Prim.Native.Nat.{ℕ, ◌+◌, ◌-◌, ◌≤◌, ◌<◌}
use native.Mathlib.Omega.{arith}
use lib.Dec.{ltb}
use borrow.Author.Tests.{ltb-true, ltb-false}
use Rattle.least_cost.specs.Weight.{weights}
use Rattle.cutting.specs.Cuts.{first_least}
use Rattle.cutting.proofs.CandidateLaws.{FirstLeast, first-least}
use Rattle.adv7195_least.specs.Plan.{flip_plan}

-- what the plans weigh, by their start
abbrev pub weight_at : List ℕ → List ℕ → ℕ → ℕ
weight_at image wanted a = weights (flip_plan image wanted a)

-- of the starts below a the best was found, and what it weighs
pub record Best (image wanted : List ℕ) (a best least : ℕ) : Type 0 where
  pub first : FirstLeast (weight_at image wanted) (a - 5) 4 best
  pub weighs : least ≡ weight_at image wanted best

module _ {f : ℕ → ℕ} {k x b : ℕ} (l : FirstLeast f k x b) where
  -- no number weighs less
  no_less : (j : ℕ) → x ≤ j → j ≤ x + k → f b ≤ f j
  no_less j from to = by (ltb j b) refl
    where
      by : (c : Bool) → ltb j b ≡ c → f b ≤ f j
      by true e = omega (arith, l.before j from (ltb-true j b e))
      by false e = l.after j (ltb-false j b e) to

  -- there is one first least
  pub same_least : b ≡ first_least f k x
  same_least =
      let m = first-least f k x in
      by (first_least f k x) m (ltb b (first_least f k x)) refl (ltb (first_least f k x) b) refl
    where
      by : (r : ℕ) → FirstLeast f k x r → (p : Bool) → ltb b r ≡ p → (q : Bool) → ltb r b ≡ q → b ≡ r
      by r m true u q v =
          let d = ltb-true b r u in
          let g = l.from in
          let t = m.to in
          absurd (omega (arith, m.before b g d, l.after r (omega arith) t))
      by r m false u true v =
          let d = ltb-true r b v in
          let g = m.from in
          let t = l.to in
          absurd (omega (arith, l.before r g d, m.after b (omega arith) t))
      by r m false u false v =
          let d = ltb-false b r u in
          let e = ltb-false r b v in
          omega arith

module _ {image wanted : List ℕ} {a best least : ℕ} (b : Best image wanted a best least) (from : 5 ≤ a) where
  -- one start more weighs less
  pub less_found : {weight : ℕ} → weight ≡ weight_at image wanted a → weight < least → Best image wanted (a + 1) a weight
  less_found e h = record {
    first = record {
      from = omega arith;
      to = omega arith;
      before = λ j g d. omega (arith, e, h, b.weighs, no_less b.first j g (omega arith));
      after = λ j g d. let same : j ≡ a = omega arith in rw same (omega arith);
    };
    weighs = e;
  }

  -- or it doesn't
  pub none_less : {weight : ℕ} → weight ≡ weight_at image wanted a → least ≤ weight → Best image wanted (a + 1) best least
  none_less e h = record {
    first = record {
      from = b.first.from;
      to = let t = b.first.to in omega arith;
      before = b.first.before;
      after = λ j g d. further j g d (ltb j a) refl;
    };
    weighs = b.weighs;
  }
    where
      further : (j : ℕ) → best ≤ j → j ≤ 4 + (a + 1 - 5) → (c : Bool) → ltb j a ≡ c → weight_at image wanted best ≤ weight_at image wanted j
      further j g d true u = b.first.after j g (let k = ltb-true j a u in omega arith)
      further j g d false u =
          let k = ltb-false j a u in
          let same : j ≡ a = omega arith in
          rw same (omega (arith, e, h, b.weighs))
