-- Demand 3: no list that keeps the rules and ends in the wanted image costs less than the plan, and every other that costs as little comes after it.
-- Assumes nothing.
use mathlib.Core.Path.{◌≡◌, refl, sym, ap, ◌∙◌}
use mathlib.Core.Logic.{inl, inr, ⊎_elim}
use mathlib.Core.Bool.{Bool, true, false, false≢true}
use mathlib.Core.List.{List, [], ◌∷◌}
use Prim.Native.Nat.{ℕ, zero, suc, ◌^◌, ◌<◌}
use native.Mathlib.Omega.{arith}
use lib.ListN.{length, get_or, set, length-set}
use lib.Seq.{get_or-set_same, get_or-set_other}
use Rattle.bus.specs.Transactions.{Transaction, Touches, Touched, bus_bytes}
use Rattle.bus.specs.Run.{after, idle_at}
use Rattle.bus.proofs.Play.{touched_or_same}
use Rattle.adv7194_bus.specs.Kind.{register_count, adv7194}
use Rattle.adv7194_bus.specs.Board.{knows}
use Rattle.adv7194_bus.specs.Rules.{Rules}
use Rattle.field_table.proofs.FitLaws.{set-bytes}
use Rattle.least_cost.specs.Order.{NoDearer, SameSpans, Ascending, Holds}
use Rattle.least_cost.specs.Task.{Allowed, Covers}
use Rattle.least_cost.specs.Cheapest.{Does}
use Rattle.least_cost.proofs.Cheapest.{map_every}
use Rattle.least_cost.proofs.Ends.{Kept, ascending-holds}
use Rattle.least_cost.proofs.Spans.{spans_ascending, same-list}
use Rattle.adv7194_least.specs.Aim.{Aim, must, compared}
use Rattle.adv7194_least.specs.Change.{Change}
use Rattle.adv7194_least.specs.Plan.{may, task, byte_of, plan_of}
use Rattle.adv7194_least.specs.Reaching.{MayHold, Reaches}
use Rattle.adv7194_least.specs.Demands.{Least, First}
use Rattle.adv7194_least.proofs.Registers.{writable_from}
use Rattle.adv7194_least.proofs.TaskLaws.{rules-writable, allowed, covers-task}
use Rattle.bus.proofs.RegisterLaws.{not_both}
use Rattle.adv7194_least.proofs.Differing.{must-settable, must-compared}
use Rattle.adv7194_least.proofs.Reached.{rules-kept, plan_cheapest, plan-reaches}
use Rattle.bits.specs.Lists.{Every}
use Rattle.adv7194_least.proofs.Parts.{Clear, Within}

-- ---- a byte that is not the wanted one

-- another byte
abbrev other : ℕ → ℕ
other zero = 1
other (suc b) = 0

-- it is a byte, and another
other_byte : (b : ℕ) → other b < 2 ^ 8
other_byte zero = omega arith
other_byte (suc b) = omega arith

other_not : (b : ℕ) → other b ≡ b → ⊥
other_not zero e = omega arith
other_not (suc b) e = omega arith

-- ---- what a list's transactions hold

-- data that are one function's values are another's, where the two agree on what is touched
holds_as : (f g : ℕ → ℕ) (ts : List Transaction) → Every (Holds f) ts → ((x : ℕ) → Touched ts x → f x ≡ g x) → Every (Holds g) ts
holds_as f g [] h e = tt
holds_as f g (t ∷ ts) h e = (λ x u. h.0 x u ∙ e x (inl u), holds_as f g ts h.1 (λ x u. e x (inr u)))

module _ (a : Aim) where
  -- a touched register is one of the chip's, and compared
  pub touched-compared : (ts : List Transaction) → Every Rules ts → Every (Clear a) ts → (x : ℕ) → Touched ts x → (x < register_count) × (compared a x ≡ true)
  touched-compared [] hs cs x u = elim u [ ]
  touched-compared (t ∷ ts) (h, hs) (c, cs) x (inl u) = ((h.inside x u).0, c x u)
  touched-compared (t ∷ ts) (h, hs) (c, cs) x (inr u) = touched-compared ts hs cs x u

  -- a register of a transaction that keeps the rules and touches none that isn't compared may be written
  clear-may : (t : Transaction) → Rules t → Clear a t → (x : ℕ) → Touches t x → may a x ≡ true
  clear-may t h c x u = rw (writable_from x (rules-writable t h x u), c x u)

  -- lists of those that keep the limit are allowed
  all-allowed : (us : List Transaction) → Every Rules us → Every (Within a.limit) us → Every (Clear a) us → Every (Allowed (task a)) us
  all-allowed [] hs ls cs = tt
  all-allowed (t ∷ us) (h, hs) (l, ls) (c, cs) = (allowed a.limit (must a) (may a) t h l (clear-may t h c), all-allowed us hs ls cs)

  module _ (χ : Change a) where
    -- the chip may hold the board's registers
    pub board-held : MayHold a.board a.board.registers
    board-held = record { size = χ.found.size; bytes = χ.found.bytes; agrees = λ r k. refl }

    -- and the same with another byte in a register that isn't known
    other_held : (r b : ℕ) → knows a.board r ≡ false → b < 2 ^ 8 → MayHold a.board (set a.board.registers r b)
    other_held r b e h = record {
      size = length-set a.board.registers r b ∙ χ.found.size;
      bytes = set-bytes a.board.registers r b χ.found.bytes h;
      agrees = λ x k. get_or-set_other a.board.registers r x b 0 (λ p. false≢true (sym e ∙ ap (knows a.board) (sym p) ∙ k));
    }

    -- a list that ends in the wanted image, whatever the chip held, touches what must be written
    reaches-touches : (own pointer : ℕ) (us : List Transaction) → Reaches own pointer a us → (x : ℕ) → must a x ≡ true → Touched us x
    reaches-touches own pointer us q x m = split (knows a.board x) refl
      where
        from : (image : List ℕ) → MayHold a.board image → (get_or image x 0 ≡ byte_of a x → ⊥) → Touched us x
        from image h d =
            ⊎_elim (λ t. t) (λ s. absurd (d (sym s ∙ q.ends image h x (must-settable a χ x m).0 (must-compared a χ x m))))
            (touched_or_same (adv7194 own) us (idle_at pointer image) x)

        split : (b : Bool) → knows a.board x ≡ b → Touched us x
        split true e = from a.board.registers board-held (not_both a.board.registers a.wanted x (rw e at m))
        split false e =
            let s = χ.found.size in
            let w = (must-settable a χ x m).0 in
            let b = other (byte_of a x) in
            from (set a.board.registers x b) (other_held x b e (other_byte (byte_of a x)))
            (λ p. other_not (byte_of a x) (sym (get_or-set_same a.board.registers x b 0 (omega arith)) ∙ p))

    -- no list that keeps the rules and touches what must be written costs less
    pub touching_no_dearer : (us : List Transaction) → Every Rules us → Every (Within a.limit) us → Every (Clear a) us
        → ((x : ℕ) → must a x ≡ true → Touched us x) → NoDearer (plan_of a) us
    touching_no_dearer us hs ls cs f = (plan_cheapest a χ).least us (all-allowed us hs ls cs) (covers-task a.limit (must a) (may a) us hs f)

    -- demand 3 of the plan's numbers
    pub plan-least : Least a (length (plan_of a)) (bus_bytes (plan_of a))
    unfolding Least NoDearer
    plan-least own pointer us q = touching_no_dearer us q.rules q.limited q.clear (reaches-touches own pointer us q)

    -- the plan is ascending
    pub plan-ascending : Ascending 0 (plan_of a)
    plan-ascending = (plan_cheapest a χ).does.ascending

    -- ---- lists that end in the wanted image
    module _ (own pointer : ℕ) (us : List Transaction) (q : Reaches own pointer a us) where
      -- their transactions are allowed
      reaches-allowed : Every (Allowed (task a)) us
      reaches-allowed = all-allowed us q.rules q.limited q.clear

      -- they touch what is needed
      reaches-covers : Covers (task a) us
      reaches-covers = covers-task a.limit (must a) (may a) us q.rules (reaches-touches own pointer us q)

      -- where they ascend they hold the wanted bytes
      reaches-holds : Ascending 0 us → Every (Holds (byte_of a)) us
      reaches-holds α =
          let n = χ.found.size in
          let c = idle_at pointer a.board.registers in
          holds_as (λ x. get_or (after (adv7194 own) c us).registers x 0) (byte_of a) us
          (ascending-holds (adv7194 own) us c 0 α (map_every Rules (Kept (adv7194 own)) (rules-kept own) us q.rules) (omega arith))
          (λ x u. let r = touched-compared us q.rules q.clear x u in q.ends a.board.registers board-held x r.0 r.1)

      -- so they do the task
      pub reaches-does : Ascending 0 us → Does (task a) (byte_of a) us
      reaches-does α = record { allowed = reaches-allowed; covers = reaches-covers; holds = reaches-holds α; ascending = α }

      -- one with the plan's starts and lengths is the plan
      same-plan : SameSpans (plan_of a) us → us ≡ plan_of a
      same-plan s =
          same-list (byte_of a) (plan_of a) us s (plan_cheapest a χ).does.holds (reaches-holds (spans_ascending (plan_of a) us 0 s plan-ascending))

    -- it is the plan: every such list that costs no more comes after it or is it
    pub plan-first : First a (plan_of a)
    unfolding First
    plan-first own pointer = record {
      reaches = plan-reaches a χ own pointer;
      least = λ us q. touching_no_dearer us q.rules q.limited q.clear (reaches-touches own pointer us q);
      first = λ us q h.
          ⊎_elim inl (λ s. inr (same-plan own pointer us q s))
          ((plan_cheapest a χ).first us (reaches-allowed own pointer us q) (reaches-covers own pointer us q) h);
    }
