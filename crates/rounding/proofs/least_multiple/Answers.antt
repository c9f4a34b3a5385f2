-- The quotient, rounded up, is the first multiple past q - 1/2.
use Rattle.std.proofs.Common.{◌≡◌, ℕ, ◌+◌, ◌-◌, ◌*◌, ◌/◌, ◌%◌, ◌≤◌, ◌<◌, sym, ap, ◌∙◌, arith}
use native.Mathlib.Nat.{div-add-mod', mod-lt, mul_assoc, mul_comm, mul-zero, zero-mul, mul-le-mul_right, add-mul, lt_of_not-le, suc-mul}
use Rattle.rounding.specs.Nearest.{Nearest, LeastMultiple}
use Rattle.rounding.proofs.Rounding.{nearest-is, nearest-only}
use Rattle.rounding.proofs.least_multiple.Goals as goal

module _ (n d q : ℕ) (n0 : 0 < n) (nd : n ≤ d) where
  -- nearest to 0 times n / d is 0
  none : LeastMultiple n d 0 0
  none = record {
    rounds = nearest-only (n * 0) d 0 (omega arith) (record { under = omega (arith, mul-zero n, zero-mul d); over = omega (arith, zero-mul d) });
    least = λ j e. omega arith;
  }

  -- q is at least 1, so q d is at least d
  whole : 0 < q → d ≤ q * d
  whole h = omega (arith, mul-le-mul_right d h, suc-mul 0 d, zero-mul d)

  -- what is divided, and the quotient
  abbrev up : ℕ
  up = 2 * (q * d) - d + (2 * n - 1)

  abbrev l : ℕ
  l = up / (2 * n)

  -- the quotient's multiple
  times : (k : ℕ) → k * (2 * n) ≡ 2 * (n * k)
  times k = sym (mul_assoc k 2 n) ∙ ap (λ (x : ℕ). x * n) (mul_comm k 2) ∙ mul_assoc 2 k n ∙ ap (λ (x : ℕ). 2 * x) (mul_comm k n)

  record Bounds : Type 0 where
    low : 2 * (q * d) ≤ 2 * (n * l) + d
    high : 2 * (n * l) < 2 * (q * d) + d

  bounds : 0 < q → Bounds
  bounds h =
      let m : up % (2 * n) < 2 * n = mod-lt up (omega arith) in
      let e : l * (2 * n) + up % (2 * n) ≡ up = div-add-mod' up (2 * n) in
      record { low = omega (arith, times l, e, m, whole h); high = omega (arith, times l, e, m, whole h) }

  some : 0 < q → LeastMultiple n d q l
  some h = record {
    rounds = nearest-only (n * l) d q (omega arith) (record { under = (bounds h).high; over = (bounds h).low });
    least = λ j e. reach j (rw e at (nearest-is (n * j) d (omega arith)));
  }
    where
      reach : (j : ℕ) → Nearest (n * j) d q → l ≤ j
      reach j r =
          let e : l * (2 * n) + up % (2 * n) ≡ up = div-add-mod' up (2 * n) in
          omega (
            arith,
            lt_of_not-le (λ (b : j + 1 ≤ l).
                let k : (j + 1) * (2 * n) ≤ l * (2 * n) = mul-le-mul_right (2 * n) b in
                omega (arith, k, times (j + 1), times j, add-mul j 1 (2 * n), e, r.over, whole h)),
          )

pub returns-then-q-eq0 : goal.returns-then-q-eq0
returns-then-q-eq0 c = record { answer = rw c.if-q-eq0.true (none c.args.n c.args.d 0 c.requires.0 c.requires.1) }

pub returns : goal.returns
returns c = record { answer = some c.args.n c.args.d c.args.q c.requires.0 c.requires.1 (omega arith) }
