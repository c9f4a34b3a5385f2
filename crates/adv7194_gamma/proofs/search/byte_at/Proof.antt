-- `search::byte_at` meets its contract. The loop's invariant: the byte is the lowest candidate of the range or one of those above it, some are above it, and
-- these are fewer than 2 to the power of the rounds left in the budget. Assumes nothing.
use mathlib.Core.Path.{sym, ◌∙◌}
use mathlib.Core.Logic.{⊎_elim}
use Prim.Native.Nat.{ℕ, ◌+◌, ◌-◌, ◌*◌, ◌/◌, ◌%◌, ◌^◌, ◌≤◌, ◌<◌}
use native.Mathlib.Omega.{arith}
use borrow.Author.Rules.{rules}
use Rattle.rounding.proofs.First.{flag}
use Rattle.adv7194_gamma.proofs.Nearest.{byte_at, bounded, at_most, above}
use Rattle.adv7194_gamma.proofs.Budget.{left, half}
use Rattle.adv7194_gamma.proofs.search.byte_at.Statement.{statement}
use Rattle.adv7194_gamma.proofs.search.byte_at.Tie as tie

abbrev invariant-loop : tie.invariant-loop-range
invariant-loop n p q x range₀ budget₀ range budget =
    (16 ≤ range / 256) × (range / 256 ≤ byte_at p q n) × (byte_at p q n ≤ range / 256 + range % 256) × (range / 256 + range % 256 ≤ 240) × (0 < range % 256)
    × (range % 256 < 2 ^ budget)

abbrev decreases-loop : tie.decreases-loop-range
decreases-loop n p q x range₀ budget₀ range budget = budget

loop-holds : tie.Need-loop-range-init invariant-loop decreases-loop
loop-holds c =
    let a = c.args in (
      omega arith,
      omega arith,
      omega (arith, bounded (a.n - 16) a.p a.q (omega arith) c.requires.2.q_low),
      omega arith,
      omega arith,
      omega arith,
    )

-- a round has one to spend
sub-budget : tie.Need-overflow_sub-budget invariant-loop decreases-loop
sub-budget c = omega (arith, left c.loop-range.budget (c.loop-range.range % 256) (omega arith) (omega arith))

below-half-requires : tie.Need-below_half-below-requires invariant-loop decreases-loop
below-half-requires c κs = (omega arith, c.requires.2, omega arith)

-- the range after a round: the byte is in it, and at most half of the candidates are above its lowest
record Halved (low above byte range : ℕ) : Type 0 where
  least : 16 ≤ range / 256
  under : range / 256 ≤ byte
  over : byte ≤ range / 256 + range % 256
  most : range / 256 + range % 256 ≤ 240
  fewer : range % 256 ≤ above / 2

lower-half : (low above byte : ℕ) → 16 ≤ low → low ≤ byte → above < 256 → low + above ≤ 240 → byte ≤ low + above / 2
    → Halved low above byte (low * 256 + above / 2)
lower-half low above byte a b c d e = record { least = omega arith; under = omega arith; over = omega arith; most = omega arith; fewer = omega arith }

upper-half : (range byte : ℕ) → 16 ≤ range / 256 → 0 < range % 256 → range / 256 + range % 256 ≤ 240 → byte ≤ range / 256 + range % 256
    → range / 256 + range % 256 / 2 < byte → Halved (range / 256) (range % 256) byte (range + (range % 256 / 2 + 1) * 255)
upper-half range byte a b c d e = record { least = omega arith; under = omega arith; over = omega arith; most = omega arith; fewer = omega arith }

-- what a round leaves
halved : (c : tie.After-choose-range invariant-loop decreases-loop)
    → let a = c.args in
    Halved (c.loop-range.range / 256) (c.loop-range.range % 256) (byte_at a.p a.q a.n) c.choose-range.result
halved c =
    let a = c.args in
    let r = c.loop-range.range in
    let x = a.n - 16 in
    let small = c.requires.2.q_low in
    let middle = r / 256 + r % 256 / 2 - 16 in
    ⊎_elim
    (λ t.
    let most = at_most x a.p a.q (omega arith) small middle (sym c.below_half-below.ensures ∙ t) in
    rw (c.choose-range.ensures, t)
    (lower-half (r / 256) (r % 256) (byte_at a.p a.q a.n) (omega arith) (omega arith) (omega arith) (omega arith) (omega (arith, most))))
    (λ f.
    let more = above x a.p a.q (omega arith) small middle (sym c.below_half-below.ensures ∙ f) in
    rw (c.choose-range.ensures, f)
    (upper-half r (byte_at a.p a.q a.n) (omega arith) (omega arith) (omega arith) (omega arith) (omega (arith, more))))
    (flag c.below_half-below.result)

cast-found : tie.Need-overflow_cast-found invariant-loop decreases-loop
cast-found c = omega (arith, (halved c.before).most)

loop-less : tie.Need-loop-range-smaller invariant-loop decreases-loop
loop-less c =
    let l = c.loop-range in
    omega (arith, left l.budget (l.range % 256) (omega arith) (omega arith))

loop-again : tie.Need-loop-range-preserved invariant-loop decreases-loop
loop-again c =
    let h = halved c.before in
    let l = c.loop-range in (
      h.least,
      h.under,
      h.over,
      h.most,
      omega (arith, c.if-range-eq0.false),
      half l.budget (l.range % 256) (c.choose-range.result % 256) (omega arith) (omega arith) h.fewer,
    )

returns : tie.Need-returns invariant-loop decreases-loop
returns c =
    let h = halved c.before in
    omega (arith, h.under, h.over, c.if-range-eq0.true)

pub byte_at_spec : {M : Type 1} → statement M
byte_at_spec =
    tie.close
    (tie.spec
    invariant-loop
    decreases-loop
    (λ c. omega arith)
    loop-holds
    sub-budget
    (λ c. omega arith)
    (λ c. omega arith)
    (λ c. omega arith)
    (λ c. omega arith)
    (λ c. omega arith)
    (λ c. omega arith)
    (λ c. omega arith)
    (λ c. omega arith)
    (λ c. omega arith)
    below-half-requires
    (λ c κs. search rules)
    cast-found
    loop-less
    loop-again
    returns)
