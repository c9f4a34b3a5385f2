-- The reason of a register of the plan, by its tests: not sent, unknown, or for a known register the tests in their order, the last of which needs none.
-- Assumes nothing.
use mathlib.Core.Path.{◌≡◌, refl, sym, ap, ◌∙◌}
use mathlib.Core.Bool.{Bool, true, false, cond, not, false≢true}
use mathlib.Core.List.{List, [], ◌∷◌, ◌++◌, map}
use Prim.Native.Nat.{ℕ}
use lib.Dec.{T, eqb}
use borrow.Author.Tests.{not-true}
use Rattle.bits.proofs.FlagLaws.{first, second, holds as is_true}
use Rattle.bus.specs.Transactions.{Transaction}
use Rattle.cutting.specs.Spans.{touched}
use Rattle.adv7194_bus.specs.Board.{knows}
use Rattle.adv7194_table.specs.Table.{table, order_of}
use Rattle.adv7194_least.specs.Aim.{Aim, must}
use Rattle.adv7194_planning.proofs.CaseLaws.{all_fields, table-fields}
use Rattle.adv7194_reasons.specs.First.{first_true}
use Rattle.adv7194_reasons.specs.Reasons.{Reason, not_sent, unknown, changed, zeroed, companion, bridge, bits_differ}
use Rattle.adv7194_reasons.specs.Reasons.{next_below, next_above, holds, answers, reason_of}
use Rattle.adv7194_reasons.specs.Known.{known_reason}
use Rattle.adv7194_reasons.proofs.FirstLaws.{first-here, first_next}

module _ (a : Aim) (ts : List Transaction) (r : ℕ) where
  -- an answer is true
  abbrev P : Reason → Bool
  P = holds a ts r

  -- the first of some fields, 0 among none of them, whose bits change there, or 0
  abbrev lowest : List ℕ → ℕ
  lowest fs = first_true (bits_differ a.board.registers a.wanted r) fs 0

  -- the fields before other answers
  fields-first : (fs : List ℕ) (ks : List Reason) (other : Reason) → T (all_fields fs)
      → first_true P (map changed fs ++ ks) other ≡ cond (eqb (lowest fs) 0) (first_true P ks other) (changed (lowest fs))
  unfolding first_true
  fields-first [] ks other t = refl
  fields-first (f ∷ fs) ks other t =
      split (bits_differ a.board.registers a.wanted r f) refl (not-true (eqb f 0) (is_true (not (eqb f 0)) (first (not (eqb f 0)) (all_fields fs) t)))
      (fields-first fs ks other (second (not (eqb f 0)) (all_fields fs) t))
    where
      split : (b : Bool) → bits_differ a.board.registers a.wanted r f ≡ b → eqb f 0 ≡ false
          → first_true P (map changed fs ++ ks) other ≡ cond (eqb (lowest fs) 0) (first_true P ks other) (changed (lowest fs))
          → first_true P (map changed (f ∷ fs) ++ ks) other ≡ cond (eqb (lowest (f ∷ fs)) 0) (first_true P ks other) (changed (lowest (f ∷ fs)))
      split true e n rest = rw (e, n)
      split false e n rest = rw e rest

  -- the needed registers next below and above
  abbrev between : Reason
  between = bridge (next_below (must a) r) (next_above (must a) r)

  -- the answers after the fields
  abbrev others : List Reason
  others = zeroed ∷ companion ∷ between ∷ []

  -- a register that isn't touched is not sent
  pub not_touched : touched ts r ≡ false → reason_of a ts r ≡ not_sent
  unfolding reason_of answers
  not_touched e = first-here P not_sent (unknown ∷ (map changed (order_of table) ++ others)) not_sent (ap not e)

  module _ (e : touched ts r ≡ true) where
    -- one that isn't known was unknown
    pub not_known_lem : knows a.board r ≡ false → reason_of a ts r ≡ unknown
    unfolding reason_of answers
    not_known_lem k =
        first_next P not_sent (unknown ∷ (map changed (order_of table) ++ others)) not_sent (ap not e)
        ∙ first-here P unknown (map changed (order_of table) ++ others) not_sent (ap not k)

    module _ (k : knows a.board r ≡ true) where
      -- for a known one the fields come first
      by_fields : reason_of a ts r ≡ cond (eqb (lowest (order_of table)) 0) (first_true P others not_sent) (changed (lowest (order_of table)))
      unfolding reason_of answers
      by_fields =
          first_next P not_sent (unknown ∷ (map changed (order_of table) ++ others)) not_sent (ap not e)
          ∙ first_next P unknown (map changed (order_of table) ++ others) not_sent (ap not k) ∙ fields-first (order_of table) others not_sent table-fields

      -- and where the answer is true no test is needed for a bridge
      pub is_known : P (reason_of a ts r) ≡ true → reason_of a ts r ≡ known_reason a.board.registers a.wanted (must a) r
      unfolding first_true
      is_known h = by_fields ∙ split (eqb (lowest (order_of table)) 0) refl (P zeroed) refl (P companion) refl (P between) refl
        where
          split : (f : Bool) → eqb (lowest (order_of table)) 0 ≡ f → (z : Bool) → P zeroed ≡ z → (c : Bool) → P companion ≡ c
              → (b : Bool) → P between ≡ b
              → cond f (first_true P others not_sent) (changed (lowest (order_of table)))
              ≡ cond f (cond (P zeroed) zeroed (cond (P companion) companion between)) (changed (lowest (order_of table)))
          split false p z q c s b t = refl
          split true p true q c s b t = rw q
          split true p false q true s b t = rw (q, s)
          split true p false q false s true t = rw (q, s, t)
          split true p false q false s false t = absurd (false≢true (sym (ap not e) ∙ ap P (sym none) ∙ h))
            where
              none : reason_of a ts r ≡ not_sent
              none = by_fields ∙ rw (p, q, s, t)
