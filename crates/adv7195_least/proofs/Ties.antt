-- Of the lists that flip MR36 and weigh no more than the plan, each starts with a transaction that touches 09, or past 09; and the plan's first transaction
-- shares no register but 09 with its others. Assumes nothing.
use mathlib.Core.Path.{◌≡◌, refl, sym, ◌∙◌}
use mathlib.Core.Logic.{inl, inr, ⊎_elim}
use mathlib.Core.Bool.{Bool, true, false, false≢true}
use mathlib.Core.List.{List, ◌∷◌}
use Prim.Native.Nat.{ℕ, ◌+◌, ◌-◌, ◌≤◌, ◌<◌, min, max}
use native.Mathlib.Omega.{arith}
use lib.Dec.{ltb, leb}
use lib.ListN.{get_or}
use borrow.Author.Tests.{ltb-true, ltb-false, leb-true, leb-false}
use Rattle.bus.specs.Registers.{differs}
use Rattle.bus.specs.Transactions.{Transaction, size, end, Touched, touches}
use Rattle.bus.proofs.RegisterLaws.{among?}
use Rattle.least_cost.specs.Weight.{weights}
use Rattle.least_cost.proofs.Attained.{Right}
use Rattle.least_cost.proofs.Pulled.{Pulled, pulled}
use Rattle.adv7195_bus.specs.Rules.{Rules}
use Rattle.adv7195_bus.proofs.OrderLaws.{touches_in}
use Rattle.adv7195_least.specs.Reaching.{Change}
use Rattle.adv7195_least.specs.Plan.{task_for, plan_for, restores, beside, preparing_start}
use Rattle.adv7195_least.proofs.TaskLaws.{plan-is, plan-covers, plan-rules}
use Rattle.adv7195_least.proofs.Differing.{Left, beside_left, beside_other, beside_03, beside_09, beside-writable}
use Rattle.adv7195_least.proofs.Candidates.{span, span_size, low_end, wider, Completes, whole, flip_weight, flip_weighs, candidate, start_is, start-least, lightest}

module _ (image wanted : List ℕ) (χ : Change image wanted) where
  -- the plan's start
  abbrev start : ℕ
  start = preparing_start image wanted

  -- a first transaction that doesn't touch 09, where the others do what is left: it starts past the plan's start, or all weighs more than the plan
  module _ (a : ℕ) (h : a ≤ 0x09) (t : Transaction) (rest : List Transaction) (c : Completes image wanted a (t ∷ rest)) (flips : Touched rest 0x03)
      (restored : restores wanted ≡ true → Touched rest 0x09) (light : whole image wanted a (t ∷ rest) ≤ flip_weight image wanted start) where
    -- others that do all that these do cannot weigh less
    no_lighter : (b : ℕ) (us : List Transaction) → b ≤ 0x09 → Completes image wanted b us → whole image wanted b us < whole image wanted a (t ∷ rest) → ⊥
    no_lighter b us g d l = omega (arith, (lightest image wanted χ b us g d).0)

    -- it has data
    has_data : 0 < size t
    unfolding weights
    has_data = split (ltb 0 (size t)) refl
      where
        split : (b : Bool) → ltb 0 (size t) ≡ b → 0 < size t
        split true e = ltb-true 0 (size t) e
        split false e =
            let n = ltb-false 0 (size t) e in
            absurd (no_lighter a rest h
            (record {
              rules = c.rules.1;
              covers = λ x d. ⊎_elim inl (λ u. ⊎_elim (λ v. absurd (omega arith)) inr u) (c.covers x d);
              flips = flips;
              restored = restored;
            })
            (omega arith))

    -- one that is joined with the transaction that touches 03
    joined : (q : Pulled Rules rest 0x03) → t.subaddress ≤ 0x09 → end t ≤ 0x09 → t.subaddress ≤ end q.transaction + 2 → ⊥
    unfolding weights
    joined q g e l =
        let f = q.transaction in
        let u = q.touch in
        let m = low_end f q.has 0x03 (omega arith) u in
        let s = has_data in
        let lo = min t.subaddress f.subaddress in
        let hi = max (end t) (end f) in
        let n = span_size lo hi in
        let w = wider rest 0x03 q lo hi (omega arith) (omega arith) (omega arith) in
        no_lighter a (span lo hi ∷ q.others) h
        (record {
          rules = w.0;
          covers = λ x d. ⊎_elim inl (λ v. inr (⊎_elim (λ z. inl (omega arith)) (λ z. w.1 x z) v)) (c.covers x d);
          flips = w.1 0x03 flips;
          restored = λ z. w.1 0x09 (restored z);
        })
        (omega (arith, q.weighs))

    -- one that is joined with the transaction for a to 09
    ahead : t.subaddress ≤ 0x09 → end t ≤ 0x09 → a ≤ end t + 2 → ⊥
    unfolding weights
    ahead g e l =
        let s = has_data in
        no_lighter (min a t.subaddress) rest (omega arith)
        (record {
          rules = c.rules.1;
          covers = λ x d. ⊎_elim (λ u. inl (omega arith)) (λ u. ⊎_elim (λ v. inl (omega arith)) inr u) (c.covers x d);
          flips = flips;
          restored = restored;
        })
        (omega arith)

    -- so it starts past 09
    pub past_09 : touches t 0x09 ≡ false → 0x09 < t.subaddress
    past_09 e = split (ltb 0x09 t.subaddress) refl
      where
        q : Pulled Rules rest 0x03
        q = pulled Rules 0x03 rest c.rules.1 flips

        before : t.subaddress ≤ 0x09 → end t ≤ 0x09
        before g = low (ltb 0x09 (end t)) refl
          where
            low : (b : Bool) → ltb 0x09 (end t) ≡ b → end t ≤ 0x09
            low true d = absurd (false≢true (sym e ∙ touches_in t 0x09 (g, ltb-true 0x09 (end t) d)))
            low false d = ltb-false 0x09 (end t) d

        near : t.subaddress ≤ 0x09 → (b : Bool) → leb t.subaddress (end q.transaction + 2) ≡ b → ⊥
        near g true d = joined q g (before g) (leb-true t.subaddress (end q.transaction + 2) d)
        near g false d =
            let l = leb-false t.subaddress (end q.transaction + 2) d in
            let u = q.touch in
            let s = has_data in
            ahead g (before g) (omega arith)

        split : (b : Bool) → ltb 0x09 t.subaddress ≡ b → 0x09 < t.subaddress
        split true d = ltb-true 0x09 t.subaddress d
        split false d = let g = ltb-false 0x09 t.subaddress d in absurd (near g (leb t.subaddress (end q.transaction + 2)) refl)

  -- ---- the plan's first transaction and its others

  -- the others
  abbrev others : List Transaction
  others = plan_for (beside image wanted start) wanted

  -- they have no register but 09 in common: else a transaction for 09 alone would do in place of the first
  pub apart_from_lem : (x : ℕ) → start ≤ x → x < 0x09 → Touched others x → ⊥
  unfolding task_for
  apart_from_lem x g h u =
      let need : ℕ → Bool = beside image wanted start in
      let fits = beside-writable image wanted χ start in
      let s = start_is image wanted χ in
      let q = pulled (Right (task_for need) (λ r. get_or wanted r 0)) x others (plan-is need fits wanted).right u in
      let t = q.transaction in
      let v = q.touch in
      let b = begins t.subaddress (omega arith) (beside_left image wanted start t.subaddress q.has.first) in
      let e = finishes (end t - 1) (omega arith) (beside_left image wanted start (end t - 1) q.has.last) in
      omega (
        arith,
        start-least image wanted χ 0x09 (omega arith) (omega arith),
        flip_weighs image wanted χ start,
        candidate image wanted χ 0x09 others (record {
          rules = plan-rules need fits wanted;
          covers = λ y d. inr (at y d (λ k l. q.back y (omega arith)));
          flips = plan-covers need fits wanted 0x03 (beside_03 image wanted start);
          restored = λ z. plan-covers need fits wanted 0x09 (beside_09 image wanted start z);
        }),
      )
    where
      begins : (r : ℕ) → r ≤ x → Left image wanted start r → r < start
      begins r l (inl (d, inl z)) = z
      begins r l (inl (d, inr z)) = absurd (omega arith)
      begins r l (inr (inl z)) = omega (arith, (start_is image wanted χ).from)
      begins r l (inr (inr z)) = absurd (omega (arith, z.0))

      finishes : (r : ℕ) → x ≤ r → Left image wanted start r → 0x09 ≤ r
      finishes r l (inl (d, inl z)) = absurd (omega arith)
      finishes r l (inl (d, inr z)) = omega arith
      finishes r l (inr (inl z)) = absurd (omega (arith, (start_is image wanted χ).from))
      finishes r l (inr (inr z)) = omega (arith, z.0)

      at : (y : ℕ) → differs image wanted y ≡ true → (start ≤ y → y ≤ 0x09 → Touched others y) → Touched others y
      at y d f =
          ⊎_elim (λ u. f u.0 u.1)
          (λ u. plan-covers (beside image wanted start) (beside-writable image wanted χ start) wanted y (beside_other image wanted start y d u))
          (among? start 0x09 y)
