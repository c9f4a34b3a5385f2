-- `registers::beside` meets its contract, register by register. Assumes nothing.
use mathlib.Core.Path.{◌≡◌}
use Prim.Native.Nat.{◌*◌, ◌%◌, ◌^◌}
use native.Mathlib.Omega.{arith}
use lib.Pow.{pow_pos}
use borrow.Author.Rules.{rules}
use Rattle.bits.proofs.DigitLaws.{one_shl}
use Rattle.adv7195_planning.proofs.RegisterMaps.{beside-is, both_fixed, one-fixed}
use Rattle.adv7195_planning.proofs.registers.beside.Statement.{statement}
use Rattle.adv7195_planning.proofs.registers.beside.Tie as tie

-- one shifted up by a
size : (c : tie.Start) → (1 * 2 ^ c.args.a) % 2 ^ 64 ≡ 2 ^ c.args.a
size c = one_shl c.args.a 64 (omega (arith, c.requires))

sub-left : tie.Need-overflow_sub-left
sub-left c = rw (size c) (pow_pos c.args.a)

returns : tie.Need-returns-then-restored
returns c image wanted told i =
    let s = c.before in
    rw (size s) (beside-is image wanted s.args.changed s.ranges.changed.fits s.args.a s.requires s.args.restored 0x208
    (λ j. rw c.if-restored.true (both_fixed j)) told i)

returns-2 : tie.Need-returns
returns-2 c image wanted told i =
    let s = c.before in
    rw (size s) (beside-is image wanted s.args.changed s.ranges.changed.fits s.args.a s.requires s.args.restored 0x08
    (λ j. rw c.if-restored.false (one-fixed j)) told i)

pub beside_spec : {M : Type 1} → statement M
beside_spec = tie.close (tie.spec
    (λ c. search rules)
    sub-left
    returns
    returns-2)
