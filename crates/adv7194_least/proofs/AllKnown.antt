-- Of a board that is known in full, with a limit of 54, needed registers and lists that reach are document 01's: flags and limit weaken nothing.
-- Assumes nothing.
use mathlib.Core.Path.{◌≡◌, refl, sym, ap, ◌∙◌}
use mathlib.Core.Bool.{Bool, true, false, not, false≢true}
use mathlib.Core.List.{List}
use Prim.Native.Nat.{ℕ, ◌-◌, ◌≤◌, ◌<◌}
use native.Mathlib.Omega.{arith}
use lib.Dec.{ltb}
use lib.ListN.{get_or}
use lib.Seq.{ext_get_or}
use borrow.Author.Tests.{ltb-true, ltb-false, eq-eqb}
use Rattle.bus.specs.Registers.{differs}
use Rattle.bus.specs.Transactions.{Transaction, size, end}
use Rattle.bus.specs.Run.{after, idle_at}
use Rattle.adv7194_bus.specs.Board.{knows}
use Rattle.adv7194_bus.specs.Kind.{register_count, adv7194}
use Rattle.adv7194_bus.specs.Limit.{no_limit}
use Rattle.adv7194_bus.specs.Rules.{Rules}
use Rattle.least_cost.proofs.Cheapest.{map_every}
use Rattle.bus.proofs.After.{length-after}
use Rattle.adv7194_least.specs.Aim.{Aim, must, compared}
use Rattle.adv7194_least.specs.Change.{Change}
use Rattle.adv7194_least.specs.Reaching.{MayHold, Reaches}
use Rattle.adv7194_least.specs.AllKnown.{KnownInFull, EndsIn, AsInFull}
use Rattle.adv7194_least.proofs.Differing.{same-past}
use Rattle.adv7194_least.proofs.Costs.{board-held}
use Rattle.adv7194_least.proofs.Parts.{Clear, Within}

-- a transaction that keeps the rules has no more data than there are registers
rules-within : (t : Transaction) → Rules t → Within no_limit t
rules-within t h = split (ltb 0 (size t)) refl
  where
    split : (b : Bool) → ltb 0 (size t) ≡ b → size t ≤ no_limit
    split true e = let d = ltb-true 0 (size t) e in omega (arith, (h.inside (end t - 1) (omega arith)).0)
    split false e = omega (arith, ltb-false 0 (size t) e)

module _ (a : Aim) (χ : Change a) (full : KnownInFull a.board) (unlimited : a.limit ≡ no_limit) where
  -- every register is compared
  all-compared : (r : ℕ) → r < register_count → compared a r ≡ true
  all-compared r h = let k = full r h in rw k

  -- the needed registers are those that differ
  needs : (r : ℕ) → must a r ≡ differs a.board.registers a.wanted r
  needs r = by (knows a.board r) refl (a.fixes r) refl (ltb r register_count) refl
    where
      by : (k : Bool) → knows a.board r ≡ k → (f : Bool) → a.fixes r ≡ f → (i : Bool) → ltb r register_count ≡ i
          → must a r ≡ differs a.board.registers a.wanted r
      by true k f e i u = rw k
      by false k f e true u = absurd (false≢true (sym k ∙ full r (ltb-true r register_count u)))
      by false k true e false u = let q = (χ.fixed r e).0 in let p = ltb-false r register_count u in absurd (omega arith)
      by false k false e false u =
          rw (k, e) (sym (ap not (eq-eqb (get_or a.board.registers r 0) (get_or a.wanted r 0) (same-past a χ r (ltb-false r register_count u)))))

  -- the chip can hold the board's registers only
  held-is : (image : List ℕ) → MayHold a.board image → image ≡ a.board.registers
  held-is image m =
      let x = m.size in
      let y = χ.found.size in
      ext_get_or 0 image a.board.registers (omega arith) (λ i h. m.agrees i (full i (omega arith)))

  -- a list that reaches ends in the wanted image
  reaches-ends : (own pointer : ℕ) (ts : List Transaction) → Reaches own pointer a ts → EndsIn own pointer a.board.registers a.wanted ts
  reaches-ends own pointer ts q = record { rules = q.rules; ends = ends }
    where
      ends : (after (adv7194 own) (idle_at pointer a.board.registers) ts).registers ≡ a.wanted
      ends =
          let x = χ.found.size in
          let y = χ.wants.size in
          let n = length-after (adv7194 own) ts (idle_at pointer a.board.registers) in
          ext_get_or 0 (after (adv7194 own) (idle_at pointer a.board.registers) ts).registers a.wanted (omega arith)
          (λ i h. q.ends a.board.registers (board-held a χ) i (omega arith) (all-compared i (omega arith)))

  -- and back
  ends-reaches : (own pointer : ℕ) (ts : List Transaction) → EndsIn own pointer a.board.registers a.wanted ts → Reaches own pointer a ts
  ends-reaches own pointer ts q = record {
    rules = q.rules;
    limited = rw unlimited (map_every Rules (Within no_limit) rules-within ts q.rules);
    clear = map_every Rules (Clear a) (λ t h r u. all-compared r (h.inside r u).0) ts q.rules;
    ends = λ image m r h c. rw (held-is image m) (ap (λ (l : List ℕ). get_or l r 0) q.ends);
  }

  -- so all that is said of the aim is what document 01 says
  pub as_in_full : AsInFull a
  as_in_full = record { needed = needs; compares = all-compared; reaches = λ own pointer ts. (reaches-ends own pointer ts, ends-reaches own pointer ts) }
