-- The plan among some lists is one: no list comes before another that comes before it. Assumes nothing.
use mathlib.Core.Path.{◌≡◌, sym}
use mathlib.Core.Logic.{inl, inr, ⊎_elim}
use mathlib.Core.List.{List, [], ◌∷◌}
use native.Mathlib.Omega.{arith}
use Rattle.bus.specs.Transactions.{Transaction}
use Rattle.least_cost.specs.Order.{Before, IsPlan}

-- of two lists at most one comes before the other
not_both_ways : (ts us : List Transaction) → Before ts us → Before us ts → ⊥
not_both_ways [] us h k = elim k [ ]
not_both_ways (t ∷ ts) [] h k = elim h [ ]
not_both_ways (t ∷ ts) (u ∷ us) (inl a) (inl b) = omega (arith, a, b)
not_both_ways (t ∷ ts) (u ∷ us) (inl a) (inr b) = omega (arith, a, b.0)
not_both_ways (t ∷ ts) (u ∷ us) (inr a) (inl b) = omega (arith, a.0, b)
not_both_ways (t ∷ ts) (u ∷ us) (inr (e, inl a)) (inr (f, inl b)) = omega (arith, a, b)
not_both_ways (t ∷ ts) (u ∷ us) (inr (e, inl a)) (inr (f, inr b)) = omega (arith, a, b.0)
not_both_ways (t ∷ ts) (u ∷ us) (inr (e, inr a)) (inr (f, inl b)) = omega (arith, a.0, b)
not_both_ways (t ∷ ts) (u ∷ us) (inr (e, inr a)) (inr (f, inr b)) = not_both_ways ts us a.1 b.1

-- two lists that are the plan among the same lists are one list
pub one-plan : {Reaches : List Transaction → Type 0} {ts us : List Transaction} → IsPlan Reaches ts → IsPlan Reaches us → us ≡ ts
one-plan {Reaches} {ts} {us} p q =
    ⊎_elim
    (λ b. ⊎_elim (λ c. absurd (not_both_ways ts us b c)) sym (q.first ts p.reaches (p.least us q.reaches)))
    (λ e. e)
    (p.first us q.reaches (q.least ts p.reaches))
