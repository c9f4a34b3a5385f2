-- `kind::kind` meets its contract: each answer's tests give the bits that the kind goes by. Assumes nothing.
use mathlib.Core.Path.{◌≡◌}
use mathlib.Core.Bool.{not, ◌||◌, beq}
use Prim.Native.Nat.{ℕ, ◌/◌, ◌%◌, ◌<◌}
use lib.Dec.{eqb}
use borrow.Author.Tests.{ne_eqb}
use Rattle.bits.specs.Maps.{has}
use Rattle.refusals.specs.Refusal.{accepted, refused}
use Rattle.rounding.proofs.Range.{below_at}
use Rattle.adv7194_signalling.specs.Kind.{kind_of}
use Rattle.adv7194_signalling.proofs.FlagLaws.{same}
use Rattle.adv7194_signalling.proofs.KindLaws.{by_bits}
use Rattle.adv7194_signalling.proofs.kind.kind.Goals as goal

-- the kind by the code's tests
by_tests : (b : ℕ) → b < 256
    → kind_of b ≡ by_bits (eqb (b / 128) 1) (not (eqb (b / 32 % 4) 0)) (eqb (b / 16 % 2) 1) (refused 7) (accepted 2) (accepted 1) (refused 4) (accepted 0)
unfolding kind_of
by_tests b h =
    let seven = same (has b 7) (eqb (b / 128) 1) (below_at (λ b. beq (has b 7) (eqb (b / 128) 1)) 256 tt b h) in
    let fields = same (has b 6 || has b 5) (not (eqb (b / 32 % 4) 0)) (below_at (λ b. beq (has b 6 || has b 5) (not (eqb (b / 32 % 4) 0))) 256 tt b h) in
    rw (seven, fields)

pub returns-then-fields-eq0 : goal.returns-then-fields-eq0
returns-then-fields-eq0 c = record { answer = rw (by_tests c.args.r19 c.ranges.r19.fits, c.if-r19-eq1.true, c.if-fields-eq0.true) }

pub returns-then-r19-eq1 : goal.returns-then-r19-eq1
returns-then-r19-eq1 c = record { answer = rw (by_tests c.args.r19 c.ranges.r19.fits, c.if-r19-eq1.true, ne_eqb _ _ c.if-fields-eq0.false) }

pub returns-then-fields-ne0 : goal.returns-then-fields-ne0
returns-then-fields-ne0 c = record { answer = rw (by_tests c.args.r19 c.ranges.r19.fits, ne_eqb _ _ c.if-r19-eq1.false, ne_eqb _ _ c.if-fields-ne0.true) }

pub returns-then-r19-eq1-2 : goal.returns-then-r19-eq1-2
returns-then-r19-eq1-2 c = record { answer = rw (by_tests c.args.r19 c.ranges.r19.fits, ne_eqb _ _ c.if-r19-eq1.false, c.if-fields-ne0.false, c.if-r19-eq1-2.true) }

pub returns : goal.returns
returns c = record { answer = rw (by_tests c.args.r19 c.ranges.r19.fits, ne_eqb _ _ c.if-r19-eq1.false, c.if-fields-ne0.false, ne_eqb _ _ c.if-r19-eq1-2.false) }
