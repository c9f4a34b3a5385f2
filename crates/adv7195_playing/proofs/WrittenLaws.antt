-- What writing a plan's data into registers answers and leaves: at a fault, at the end, and where a transaction breaks the rule or the order.
-- Assumes nothing.
use mathlib.Core.Path.{◌≡◌, refl, sym, ap, ap₂, ◌∙◌, subst⁻¹}
use mathlib.Core.Logic.{⊎_elim}
use mathlib.Core.Bool.{Bool, true, false, not, xor, ◌&&◌, ◌||◌}
use mathlib.Core.List.{List, []}
use Prim.Native.Nat.{ℕ, ◌+◌, ◌-◌, ◌≤◌}
use native.Mathlib.Omega.{arith}
use lib.ListN.{length, get_or}
use lib.Seq.{length-sets}
use Rattle.bits.specs.Maps.{has}
use Rattle.refusals.specs.Refusal.{Judged, accepted, refused}
use Rattle.bus.specs.Transactions.{Transaction, size}
use Rattle.bus.proofs.WrittenRun.{written-length}
use Rattle.unpacking.specs.declared.places.Place.{Place}
use Rattle.unpacking.specs.declared.steps.Order.TheVariants.{Any}
use Rattle.unpacking.specs.declared.steps.Cursor.{Cursor}
use Rattle.unpacking.specs.Unpacking.{counted}
use Rattle.unpacking.specs.Places.{data_copied}
use Rattle.unpacking.specs.Steps.{transaction_at}
use Rattle.unpacking.proofs.StepLaws.{rest_of, Went}
use Rattle.unpacking.proofs.Walking.{walk_ends, walk_fails}
use Rattle.unpacking.proofs.Writing.{passes, Writing, as_many, sized, data_stored, writing_goes, writing_breaks}
use Rattle.adv7195_bus.specs.Kind.{register_count}
use Rattle.adv7195_bus.specs.Rules.{Rules, keeps_rules}
use Rattle.adv7195_bus.specs.Order.{mode_register3, interpolation_bit, interpolation, flipped}
use Rattle.adv7195_bus.proofs.RuleLaws.{agree}
use Rattle.playing.specs.Playing.{judged_if}
use Rattle.playing.proofs.Judging.{by_test}
use Rattle.adv7195_playing.specs.Playing.{unpacked, takes}
use Rattle.adv7195_playing.specs.Written.{Written, prepared_after}
use Rattle.adv7195_playing.proofs.TurnLaws.{turns, overwritten, prepared_held, passes_both}

-- the registers are as many, also where the plan was refused
pub left_as_many : (j : Judged (List Transaction)) (before after : List ℕ) → Written j before after → length after ≡ length before
left_as_many (accepted ts) before after w = ap length w ∙ written-length before ts
left_as_many (refused n) before after w = w

-- what is answered, and left of the registers
abbrev pub Answers : List ℕ → List ℕ → List ℕ → Judged ℕ → Type 0
Answers plan before after answer =
    (answer ≡ counted (judged_if (takes before) (unpacked plan))) × Written (judged_if (takes before) (unpacked plan)) before after

-- some transactions of the plan were passed, taken and written; p says whether 3E was the last byte for 09
abbrev pub Passed : List ℕ → List ℕ → Bool → List ℕ → Cursor → ℕ → Type 0
Passed plan before p now c transactions = Writing turns plan Any false before p now c transactions

-- by the judgement
answers : (plan before after : List ℕ) {answer : Judged ℕ} {j : Judged (List Transaction)} → judged_if (takes before) (unpacked plan) ≡ j → answer ≡ counted j
    → Written j before after → Answers plan before after answer
answers plan before after e p w = (p ∙ sym (ap counted e), subst⁻¹ (λ (j : Judged (List Transaction)). Written j before after) e w)

-- a flip that isn't prepared, as the code tests it
unprepared : (x p : Bool) → (not x || p) ≡ not (x && not p)
unprepared true true = refl
unprepared true false = refl
unprepared false p = refl

module _ {plan before : List ℕ} {p : Bool} {now : List ℕ} {c : Cursor} {transactions : ℕ} (w : Passed plan before p now c transactions) where
  -- the plan has a fault
  pub fault_answered : {n : ℕ} → rest_of plan c ≡ refused n → Answers plan before now (refused n)
  fault_answered e = answers plan before now (ap (judged_if (takes before)) (walk_fails w.walked e)) refl (as_many w)

  module _ (long : length before ≡ register_count) where
    -- a list is taken as its transactions pass their turns
    taken : (ts : List Transaction) {b : Bool} → passes turns false before ts ≡ b → takes before ts ≡ b
    taken ts e = sym (passes_both ts false before long) ∙ e

    -- it ends
    pub end_answered : rest_of plan c ≡ accepted [] → Answers plan before now (accepted transactions)
    end_answered e =
        answers plan before now (by_test (takes before) (walk_ends w.walked e) (taken w.done w.passed)) (ap accepted w.counts) w.written

    module _ {subaddress count : ℕ} {first : Place} {after : Cursor} (g : Went plan c subaddress count first after) where
      -- the transaction found
      abbrev t : Transaction
      t = transaction_at plan subaddress count first

      -- it isn't taken
      not_taken : turns.asks p now t ≡ false → (left : List ℕ) → length left ≡ length before → Answers plan before left (refused 9)
      not_taken e left h =
          answers plan before left
          (⊎_elim (λ r. ap (judged_if (takes before)) r) (λ u. by_test (takes before) u.1.0 (taken u.0 u.1.1)) (writing_breaks w g e)) refl h

      -- it breaks the rule
      pub rule_answered : keeps_rules subaddress count ≡ false → Answers plan before now (refused 9)
      rule_answered e = not_taken (rw (sized w g, e)) now (as_many w)

      -- it keeps the rule
      module _ (e : keeps_rules subaddress count ≡ true) where
        kept : keeps_rules subaddress (size t) ≡ true
        kept = ap (keeps_rules subaddress) (sized w g) ∙ e

        rules : Rules t
        rules = (agree t).0 (rw kept tt)

        fits : subaddress + count ≤ length now
        fits =
            let last = (rules.inside (subaddress + count - 1) (omega (arith, g.some), omega (arith, sized w g, g.some))).0 in
            omega (arith, as_many w, long)

        -- its data are written
        module _ {registers : List ℕ} (h : registers ≡ data_copied plan first now subaddress count) where
          stored : registers ≡ overwritten now t
          stored = data_stored w g fits h

          pub still_as_many : length registers ≡ length before
          still_as_many = ap length stored ∙ length-sets now subaddress t.bytes ∙ as_many w

          -- whether it flips MR36 is told by its registers
          asked : {x : Bool} → x ≡ xor (has (get_or now mode_register3 0) interpolation_bit) (has (get_or registers mode_register3 0) interpolation_bit)
              → {b : Bool} → x && not p ≡ b → turns.asks p now t ≡ not b
          unfolding interpolation
          asked {x} q f =
              ap₂ (λ (y z : Bool). y && (not z || p)) kept (sym (q ∙ ap (λ (l : List ℕ). flipped now l) stored)) ∙ unprepared x p ∙ ap not f

          -- it flips MR36, and 3E is missing
          pub order_answered : {x : Bool} → x ≡ xor (has (get_or now mode_register3 0) interpolation_bit) (has (get_or registers mode_register3 0) interpolation_bit)
              → x && not p ≡ true → Answers plan before registers (refused 9)
          order_answered q f = not_taken (asked q f) registers still_as_many

          -- it doesn't, or 3E isn't
          pub written_on : {x : Bool} → x ≡ xor (has (get_or now mode_register3 0) interpolation_bit) (has (get_or registers mode_register3 0) interpolation_bit)
              → x && not p ≡ false → {p' : Bool} → p' ≡ prepared_after p registers subaddress count → Passed plan before p' registers after (transactions + 1)
          written_on q f r =
              writing_goes w g (asked q f)
              (r ∙ ap₂ (λ (l : List ℕ) (n : ℕ). prepared_after p l subaddress n) stored (sym (sized w g))
              ∙ prepared_held now t (as_many w ∙ long) rules p) stored
