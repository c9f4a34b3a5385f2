-- Every register has an answer that is true: one that the plan touches was unknown, or a field's bits change there, or a must-be-zero bit was set, or it goes
-- with the subcarrier word, or it lies between needed registers. Assumes nothing.
use mathlib.Core.Path.{◌≡◌, refl, sym, ◌∙◌}
use mathlib.Core.Logic.{⊎_elim}
use mathlib.Core.Bool.{Bool, true, false, not, ◌&&◌, false≢true}
use mathlib.Core.List.{List, [], ◌∷◌, map}
use Prim.Native.Nat.{ℕ, ◌≤◌, ◌<◌}
use native.Mathlib.Omega.{arith}
use lib.Dec.{eqb}
use lib.IntN.{ℤ}
use lib.ListN.{get_or}
use borrow.Author.Tests.{eqb-true, eq-eqb, not-false}
use Rattle.cutting.specs.Spans.{touched}
use Rattle.adv7194_bus.specs.Rules.{Rules}
use Rattle.adv7194_bus.specs.Kind.{register_count}
use Rattle.adv7194_bus.specs.Board.{knows}
use Rattle.adv7194_bus.specs.Limit.{limit_right}
use Rattle.adv7194_bus.specs.declared.board.Board.{Board}
use Rattle.adv7194_table.specs.Table.{table, order_of}
use Rattle.adv7194_table.specs.RawCodes.{zero_bits}
use Rattle.adv7194_table.specs.Registers.{some_below}
use Rattle.adv7194_table.proofs.RegisterLaws.{one_below}
use Rattle.least_cost.proofs.Attained.{Right}
use Rattle.adv7194_least.specs.Aim.{Aim, must, aim_of}
use Rattle.adv7194_least.specs.Change.{Image, Change}
use Rattle.adv7194_least.specs.Plan.{in_word, word_in, needed, task, byte_of, plan_of}
use Rattle.bus.proofs.RegisterLaws.{among?, among_in}
use Rattle.adv7194_least.proofs.TaskLaws.{need-word, need_other}
use Rattle.adv7194_least.proofs.Reached.{plan-right, plan-rules}
use Rattle.adv7194_least.proofs.WantedChange.{settings_change}
use Rattle.adv7194_reasons.specs.First.{NoneTrue, FirstTrue}
use Rattle.adv7194_reasons.specs.Reasons.{not_sent, changed, zeroed, companion, bridge, bits_differ, with_other}
use Rattle.adv7194_reasons.specs.Reasons.{next_below, next_above, holds, answers, reason_of}
use Rattle.adv7194_reasons.proofs.FirstLaws.{none-append, none-map, first_true_lem}
use Rattle.adv7194_reasons.proofs.SentLaws.{sent_touched, touched_in}
use Rattle.adv7194_reasons.proofs.BridgeLaws.{is-bridge}
use Rattle.adv7194_reasons.proofs.ChangedLaws.{Settled, settings_settled, byte_stays}

-- a register that isn't needed by itself and goes with no needed one of the word isn't needed
alone : (a : Aim) (r : ℕ) → must a r ≡ false → with_other (must a) r ≡ false → needed a r ≡ false
alone a r m c = ⊎_elim (λ w. need-word (must a) r w.0 w.1 ∙ none w) (λ o. need_other (must a) r o ∙ m) (among? 0x0c 0x0f r)
  where
    -- none of the word's registers is needed
    other : (0x0c ≤ r) × (r ≤ 0x0f) → (x : ℕ) → 0x0c ≤ x → x ≤ 0x0f → must a x ≡ false
    other w x u v = split (must a x) refl (eqb x r) refl
      where
        split : (b : Bool) → must a x ≡ b → (e : Bool) → eqb x r ≡ e → must a x ≡ false
        split false p e q = p
        split true p true q = rw (eqb-true x r q) m
        split true p false q =
            let some : some_below (λ y. in_word y && (not (eqb y r) && must a y)) register_count ≡ true =
            one_below (λ y. in_word y && (not (eqb y r) && must a y)) register_count x (omega arith) (rw (among_in 0x0c 0x0f x u v, q, p)) in
            absurd (false≢true (sym c ∙ rw (among_in 0x0c 0x0f r w.0 w.1, some)))

    none : (0x0c ≤ r) × (r ≤ 0x0f) → word_in (must a) ≡ false
    none w =
        rw (
          other w 0x0c (omega arith) (omega arith),
          other w 0x0d (omega arith) (omega arith),
          other w 0x0e (omega arith) (omega arith),
          other w 0x0f (omega arith) (omega arith),
        )

-- a register of the plan is one of the chip's
pub plan-inside : (a : Aim) → Change a → (r : ℕ) → touched (plan_of a) r ≡ true → r < register_count
plan-inside a χ r e = let q = touched_in Rules (plan_of a) r (plan-rules a χ) (sent_touched (plan_of a) r e) in (q.is.inside r q.has).0

module _ (a : Aim) (χ : Change a) (σ : Settled a) (r : ℕ) where
  -- a known one where no field's bits change and no must-be-zero bit was set isn't needed by itself
  stays : touched (plan_of a) r ≡ true → knows a.board r ≡ true → NoneTrue (bits_differ a.board.registers a.wanted r) (order_of table)
      → not (eqb (zero_bits a.board.registers r) 0) ≡ false → must a r ≡ false
  stays u k n z = rw (k, eq-eqb (get_or a.board.registers r 0) (get_or a.wanted r 0) (byte_stays a χ σ r (plan-inside a χ r u) n z))

  -- not every answer is wrong
  not_none : NoneTrue (holds a (plan_of a) r) (answers a r) → ⊥
  unfolding answers
  not_none n =
      let u = not-false _ n.0 in
      let last = zeroed ∷ companion ∷ bridge (next_below (must a) r) (next_above (must a) r) ∷ [] in
      let rest = none-append (holds a (plan_of a) r) (map changed (order_of table)) last n.1.1 in
      let m = stays u (not-false _ n.1.0) (none-map (holds a (plan_of a) r) changed (order_of table) rest.0) rest.1.0 in
      let q = touched_in (Right (task a) (byte_of a)) (plan_of a) r (plan-right a χ) (sent_touched (plan_of a) r u) in
      false≢true (sym rest.1.1.1.0 ∙ is-bridge a χ r q (alone a r m rest.1.1.0))

  -- so the reason is true, and none earlier in the order is
  pub some-answer : FirstTrue (holds a (plan_of a) r) (answers a r) (reason_of a (plan_of a) r)
  unfolding reason_of
  some-answer = first_true_lem (holds a (plan_of a) r) (answers a r) not_sent not_none

-- so it is of what settings aim at, over any board, with a right limit
pub settings_answer : (b : Board) (zs : List ℤ) (limit r : ℕ) → Image b.registers → limit_right limit ≡ true
    → FirstTrue (holds (aim_of b zs limit) (plan_of (aim_of b zs limit)) r) (answers (aim_of b zs limit) r)
    (reason_of (aim_of b zs limit) (plan_of (aim_of b zs limit)) r)
settings_answer b zs limit r i l = some-answer (aim_of b zs limit) (settings_change b zs limit i l) (settings_settled b zs limit i) r
