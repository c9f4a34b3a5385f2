-- The quotient of the doubled numbers is nearest, and nothing else is.
use Rattle.std.proofs.Common.{◌≡◌, ℕ, ◌+◌, ◌*◌, ◌/◌, ◌%◌, ◌<◌, sym, ap, ◌∙◌, arith}
use native.Mathlib.Nat.{div-add-mod', mod-lt, mul_assoc, mul_comm}
use Rattle.rounding.specs.Nearest.{Nearest}
use Rattle.rounding.proofs.Rounding.{nearest-only}
use Rattle.rounding.proofs.nearest.Goals as goal

-- the quotient of the doubled numbers is nearest
quotient : (n d : ℕ) → 0 < d → Nearest n d ((2 * n + d) / (2 * d))
quotient n d h =
    let q = (2 * n + d) / (2 * d) in
    let whole = div-add-mod' (2 * n + d) (2 * d) in
    let rest : (2 * n + d) % (2 * d) < 2 * d = mod-lt (2 * n + d) (omega arith) in
    let twice : q * (2 * d) ≡ 2 * (q * d) = sym (mul_assoc q 2 d) ∙ ap (λ (x : ℕ). x * d) (mul_comm q 2) ∙ mul_assoc 2 q d in
    record { under = omega (arith, whole, rest, twice); over = omega (arith, whole, twice) }

pub returns : goal.returns
returns c = record { answer = sym (nearest-only c.args.n c.args.d _ c.requires.0 (quotient c.args.n c.args.d c.requires.0)) }
