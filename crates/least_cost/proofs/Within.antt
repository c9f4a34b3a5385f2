-- Where a limit is in force and the greedy plan keeps it, the greedy plan is the plan, and no other list that does the task is as cheap. Assumes nothing.
use mathlib.Core.Path.{◌≡◌, refl, sym, ◌∙◌}
use mathlib.Core.Bool.{Bool, true, false, and-eq-true_iff}
use mathlib.Core.List.{List, [], ◌∷◌}
use Prim.Native.Nat.{ℕ, ◌-◌, ◌≤◌, ◌<◌}
use native.Mathlib.Omega.{arith}
use lib.Dec.{ltb}
use borrow.Author.Tests.{ltb-true, ltb-false, lt-ltb}
use Rattle.bus.specs.Transactions.{Transaction, size, end}
use Rattle.least_cost.specs.Order.{NoDearer}
use Rattle.least_cost.specs.Task.{Task, Allowed, Sound, Free, Limited}
use Rattle.least_cost.specs.Plan.{plan, greedy_plan}
use Rattle.least_cost.specs.Cheapest.{Does, OnlyOne}
use Rattle.least_cost.proofs.Alike.{greedy_alike}
use Rattle.least_cost.proofs.Cheapest.{map_every, optimal, does-task, cheapest, only_greedy}
use Rattle.least_cost.proofs.Segments.{later-limited}
use Rattle.bits.specs.Lists.{Every}

-- two things that hold of each transaction of a list hold together
both_every : (P Q : Transaction → Type 0) (ts : List Transaction) → Every P ts → Every Q ts → Every (λ t. P t × Q t) ts
both_every P Q [] a b = tt
both_every P Q (t ∷ ts) a b = ((a.0, b.0), both_every P Q ts a.1 b.1)

module _ (p : Task) (want : ℕ → ℕ) (σ : Sound p) (ok : ℕ → Bool) (limit : ℕ) (μ : Limited p ok limit) (some : 0 < limit) where
  -- the task without its limit
  abbrev q : Task
  q = record { count = p.count; need = p.need; takes = λ s i. ok i; cut = p.cut }

  -- what a transaction may take under the limit it may take without it
  takes_ok : (s x : ℕ) → p.takes s x ≡ true → ok x ≡ true
  takes_ok s x e = ((and-eq-true_iff (ok x) (ltb (x - s) limit)).0 (sym (μ.takes s x) ∙ e)).0

  -- and within the limit the other way round
  ok_takes : (s x : ℕ) → ok x ≡ true → x - s < limit → p.takes s x ≡ true
  ok_takes s x o h = μ.takes s x ∙ rw (o, lt-ltb (x - s) limit h)

  -- there is a plan for it
  sound : Sound q
  sound = record {
    need_in = σ.need_in;
    takes_in = λ s x o. σ.takes_in x x (ok_takes x x o (omega arith));
    cut_first = σ.cut_first;
    cut_before = σ.cut_before;
    cut_after = σ.cut_after;
    small = σ.small;
    stop = λ i n. let e = σ.stop i n in record { at = e.at; after = e.after; takes = λ x a b. takes_ok i x (e.takes x a b); cut = e.cut };
  }

  -- and no limit is in force
  free : Free q ok
  free = record { takes = λ s i. refl; needed = μ.needed }

  -- what keeps the rules with the limit keeps them without
  without : (t : Transaction) → Allowed p t → Allowed q t
  without t h = record { within = h.within; takes = λ s u x a b. takes_ok s x (h.takes s u x a b); ends = h.ends }

  -- and the other way round, where it has no more data than the limit allows
  within : (t : Transaction) → Allowed q t × (size t ≤ limit) → Allowed p t
  within t (h, l) = record { within = h.within; takes = λ s u x a b. ok_takes s x (h.takes s u x a b) (omega arith); ends = h.ends }

  -- a list that does the task does it without the limit
  does-without : (ts : List Transaction) → Does p want ts → Does q want ts
  does-without ts d = record {
    allowed = map_every (Allowed p) (Allowed q) without ts d.allowed;
    covers = d.covers;
    holds = d.holds;
    ascending = d.ascending;
  }

  -- both have one greedy plan
  same_greedy : greedy_plan q ok want ≡ greedy_plan p ok want
  same_greedy = greedy_alike q p ok ok want refl (λ i. refl) (λ i. refl)

  -- without the limit the greedy plan does the task
  greedy_does : Does q want (greedy_plan p ok want)
  greedy_does = rw (← same_greedy) (cheapest q want sound ok free).does

  -- and no other list that does is as cheap
  greedy_only : OnlyOne q want (greedy_plan p ok want)
  greedy_only = rw (← same_greedy) (only_greedy q want sound ok free)

  -- a limit that is no less than the number of registers is kept by the greedy plan
  pub greedy_within : p.count ≤ limit → Every (λ t. size t ≤ limit) (greedy_plan p ok want)
  greedy_within h = map_every (Allowed q) (λ t. size t ≤ limit) fits (greedy_plan p ok want) greedy_does.allowed
    where
      fits : (t : Transaction) → Allowed q t → size t ≤ limit
      fits t a = split (ltb 0 (size t)) refl
        where
          split : (b : Bool) → ltb 0 (size t) ≡ b → size t ≤ limit
          split true e = let d = ltb-true 0 (size t) e in omega (arith, a.within (end t - 1) (omega arith))
          split false e = omega (arith, ltb-false 0 (size t) e)

  module _ (keeps : Every (λ t. size t ≤ limit) (greedy_plan p ok want)) where
    -- the greedy plan keeps the rules with the limit, so the plan is no dearer
    no_dearer_than : NoDearer (plan p want) (greedy_plan p ok want)
    no_dearer_than =
        optimal p want σ (greedy_plan p ok want)
        (map_every (λ t. Allowed q t × (size t ≤ limit)) (Allowed p) within (greedy_plan p ok want)
        (both_every (Allowed q) (λ t. size t ≤ limit) (greedy_plan p ok want) greedy_does.allowed keeps))
        greedy_does.covers

    -- the plan is the greedy one
    pub plan-within : plan p want ≡ greedy_plan p ok want
    plan-within = greedy_only (plan p want) (does-without (plan p want) (does-task p want σ (later-limited p σ ok limit μ))) no_dearer_than

    -- and no other list that does the task is as cheap
    pub only-within : OnlyOne p want (plan p want)
    only-within us d h = greedy_only us (does-without us d) (rw plan-within at h) ∙ sym plan-within
