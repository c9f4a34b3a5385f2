-- The bit of two bytes' exclusive or is the exclusive or of their bits.
use mathlib.Core.Path.{◌≡◌, ap, ◌∙◌}
use mathlib.Core.Logic.{◌⊎◌, inl, inr}
use mathlib.Core.Bool.{not, xor}
use Prim.Native.Nat.{ℕ, ◌*◌, ◌/◌, ◌%◌, ◌^◌}
use lib.Bits.{bit_and, bit_xor, and_high, xor_shr, xor_mod}
use lib.Dec.{eqb}
use Rattle.bits.specs.Maps.{has}
use Rattle.bits.proofs.DigitLaws.{digit}
use Rattle.adv7195_bus.specs.Order.{interpolation_bit}
use Rattle.adv7195_bus.proofs.flips.Goals as goal

-- the bit as it stands in its byte
abbrev mask : ℕ
mask = 2 ^ interpolation_bit

-- two digits differ
digits : (x y : ℕ) → not (eqb (bit_xor (x % 2) (y % 2) * mask) 0) ≡ xor (eqb (x % 2) 1) (eqb (y % 2) 1)
unfolding xor
digits x y = go (digit x) (digit y)
  where
    go : (x % 2 ≡ 0) ⊎ (x % 2 ≡ 1) → (y % 2 ≡ 0) ⊎ (y % 2 ≡ 1) → not (eqb (bit_xor (x % 2) (y % 2) * mask) 0) ≡ xor (eqb (x % 2) 1) (eqb (y % 2) 1)
    go (inl p) (inl q) = rw (p, q)
    go (inl p) (inr q) = rw (p, q)
    go (inr p) (inl q) = rw (p, q)
    go (inr p) (inr q) = rw (p, q)

-- so do two bytes in that bit
differ : (a b : ℕ) → not (eqb (bit_and (bit_xor a b) mask) 0) ≡ xor (has a interpolation_bit) (has b interpolation_bit)
differ a b =
    ap (λ (n : ℕ). not (eqb n 0)) (and_high (bit_xor a b) 1 interpolation_bit)
    ∙ ap (λ (n : ℕ). not (eqb (n % 2 * mask) 0)) (xor_shr a b interpolation_bit)
    ∙ ap (λ (n : ℕ). not (eqb (n * mask) 0)) (xor_mod (a / mask) (b / mask) 1)
    ∙ digits (a / mask) (b / mask)

pub returns : goal.returns
returns c = record { answer = differ c.args.before c.args.after }
