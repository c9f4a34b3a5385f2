-- Lists with the same starts and lengths: both ascend, touch the same registers, and are one where both hold the wanted bytes. Assumes nothing.
use mathlib.Core.Path.{◌≡◌, refl, sym, ap₂, ◌∙◌}
use mathlib.Core.Logic.{inl, inr}
use mathlib.Core.List.{List, [], ◌∷◌}
use Prim.Native.Nat.{ℕ, ◌+◌, ◌-◌, ◌<◌}
use native.Mathlib.Omega.{arith}
use lib.ListN.{get_or}
use lib.Seq.{ext_get_or}
use Rattle.bus.specs.Transactions.{Transaction, size, end, Touched}
use Rattle.least_cost.specs.Order.{SameSpans, Ascending, Holds}
use Rattle.least_cost.proofs.Attained.{ascending_from}
use Rattle.bits.specs.Lists.{Every}

-- two transactions of one span that hold the wanted bytes are one
pub same_transaction : (want : ℕ → ℕ) (t u : Transaction) → t.subaddress ≡ u.subaddress → size t ≡ size u → Holds want t → Holds want u → t ≡ u
same_transaction want t u e n a b = ap₂ (λ i l. record { subaddress = i; bytes = l }) e (ext_get_or 0 t.bytes u.bytes n at)
  where
    at : (i : ℕ) → i < size t → get_or t.bytes i 0 ≡ get_or u.bytes i 0
    at i h =
        let x : t.subaddress + i - t.subaddress ≡ i = omega arith in
        let y : t.subaddress + i - u.subaddress ≡ i = omega arith in
        rw x at (a (t.subaddress + i) (omega arith)) ∙ sym (rw y at (b (t.subaddress + i) (omega arith)))

-- lists with the same starts and lengths that hold the wanted bytes are one
pub same-list : (want : ℕ → ℕ) (ts us : List Transaction) → SameSpans ts us → Every (Holds want) ts → Every (Holds want) us → us ≡ ts
same-list want [] [] e a b = refl
same-list want [] (u ∷ us) e a b = absurd e
same-list want (t ∷ ts) [] e a b = absurd e
same-list want (t ∷ ts) (u ∷ us) e a b =
    ap₂ ◌∷◌ (same_transaction want u t (sym e.0) (sym e.1.0) b.0 a.0) (same-list want ts us e.1.1 a.1 b.1)

-- where one of two such lists ascends, so does the other
pub spans_ascending : (ts us : List Transaction) (i : ℕ) → SameSpans ts us → Ascending i ts → Ascending i us
spans_ascending [] [] i e a = tt
spans_ascending [] (u ∷ us) i e a = absurd e
spans_ascending (t ∷ ts) [] i e a = absurd e
spans_ascending (t ∷ ts) (u ∷ us) i e a =
    (omega (arith, e.0, a.0), ascending_from (end t) (end u) us (omega (arith, e.0, e.1.0)) (spans_ascending ts us (end t) e.1.1 a.1))

-- in an ascending list nothing is touched before the first start
pub ascending-past : (i r : ℕ) (ts : List Transaction) → Ascending i ts → r < i → Touched ts r → ⊥
ascending-past i r [] a h u = elim u [ ]
ascending-past i r (t ∷ ts) a h (inl u) = omega arith
ascending-past i r (t ∷ ts) a h (inr u) = ascending-past (end t) r ts a.1 (omega arith) u

-- what one of two such lists touches the other touches
pub spans_touched : (ts us : List Transaction) (r : ℕ) → SameSpans ts us → Touched us r → Touched ts r
spans_touched [] [] r e a = absurd a
spans_touched [] (u ∷ us) r e a = absurd e
spans_touched (t ∷ ts) [] r e a = absurd e
spans_touched (t ∷ ts) (u ∷ us) r e (inl a) = inl (omega (arith, e.0, e.1.0))
spans_touched (t ∷ ts) (u ∷ us) r e (inr a) = inr (spans_touched ts us r e.1.1 a)
