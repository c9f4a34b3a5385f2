-- One turn of the loops that look for the needed registers next to one and for the lowest field that changes. Assumes nothing.
use mathlib.Core.Path.{◌≡◌, sym, ap, ◌∙◌}
use mathlib.Core.Bool.{Bool, true, false}
use mathlib.Core.List.{List}
use Prim.Native.Nat.{ℕ, suc, ◌+◌, ◌-◌, ◌≤◌, ◌<◌}
use native.Mathlib.Numerals.{add-one}
use native.Mathlib.Omega.{arith}
use Rattle.rounding.specs.First.{first_from}
use Rattle.adv7194_bus.specs.Kind.{register_count}
use Rattle.adv7194_table.specs.Table.{table, order_of}
use Rattle.adv7194_table.specs.Masks.{each}
use Rattle.adv7194_table.specs.Registers.{field_count}
use Rattle.adv7194_table.proofs.TableLaws.{order_is}
use Rattle.adv7194_reasons.specs.First.{first_true}
use Rattle.adv7194_reasons.specs.Reasons.{next_below, next_above}
use Rattle.adv7194_reasons.proofs.FirstLaws.{first-here, first_next}
use Rattle.adv7194_reasons.proofs.NextLaws.{below-here, below_next, from_here, from_next}

module _ (P : ℕ → Bool) where
  -- ---- downwards, from a register to the one before it

  pub down_here : (r : ℕ) → 0 < r → P (r - 1) ≡ true → r - 1 ≡ next_below P r
  down_here r h e = let k : r ≡ suc (r - 1) = omega arith in sym (ap (next_below P) k ∙ below-here P (r - 1) e)

  pub down_next : (r : ℕ) → 0 < r → P (r - 1) ≡ false → next_below P (r - 1) ≡ next_below P r
  down_next r h e = let k : r ≡ suc (r - 1) = omega arith in sym (ap (next_below P) k ∙ below_next P (r - 1) e)

  pub down_none : (r : ℕ) → r ≤ 0 → 0 ≡ next_below P r
  unfolding next_below
  down_none r h = let k : r ≡ 0 = omega arith in sym (ap (next_below P) k)

  -- ---- upwards, to the last register

  -- the next of the registers from r on
  abbrev pub next_up : ℕ → ℕ
  next_up r = first_from P r (register_count - r)

  pub up_first : (r : ℕ) → next_up (r + 1) ≡ next_above P r
  up_first r = ap next_up (add-one r)

  -- the registers from r on are r and those that follow
  higher : (r : ℕ) → r < register_count → next_up r ≡ first_from P r (suc (register_count - (r + 1)))
  higher r h = ap (first_from P r) (omega arith)

  pub up_here : (r : ℕ) → r < register_count → P r ≡ true → r ≡ next_up r
  up_here r h e = sym (higher r h ∙ from_here P (register_count - (r + 1)) r e)

  pub up_next : (r : ℕ) → r < register_count → P r ≡ false → next_up (r + 1) ≡ next_up r
  up_next r h e = ap (λ (k : ℕ). first_from P k (register_count - (r + 1))) (add-one r) ∙ sym (higher r h ∙ from_next P (register_count - (r + 1)) r e)

  pub up_none : (r : ℕ) → register_count ≤ r → r ≡ next_up r
  unfolding first_from
  up_none r h = let k : register_count - r ≡ 0 = omega arith in sym (ap (first_from P r) k)

  -- ---- the fields from one to the last

  -- the first of n fields from f on that passes the test, or 0
  abbrev first_over : ℕ → ℕ → ℕ
  first_over f n = first_true P (each (λ k. k) f n) 0

  -- and of all from f on
  abbrev pub first_field : ℕ → ℕ
  first_field f = first_over f (field_count - f)

  pub field-first : first_field 1 ≡ first_true P (order_of table) 0
  field-first = sym (ap (λ (fs : List ℕ). first_true P fs 0) order_is)

  -- those from f on are f and those that follow
  later : (f : ℕ) → f < field_count → first_field f ≡ first_over f (suc (field_count - (f + 1)))
  later f h = let k : field_count - f ≡ suc (field_count - (f + 1)) = omega arith in ap (first_over f) k

  pub field-here : (f : ℕ) → f < field_count → P f ≡ true → f ≡ first_field f
  field-here f h e = sym (later f h ∙ first-here P f (each (λ k. k) (suc f) (field_count - (f + 1))) 0 e)

  pub field_next : (f : ℕ) → f < field_count → P f ≡ false → first_field (f + 1) ≡ first_field f
  field_next f h e =
      ap (λ (g : ℕ). first_over g (field_count - (f + 1))) (add-one f)
      ∙ sym (later f h ∙ first_next P f (each (λ k. k) (suc f) (field_count - (f + 1))) 0 e)

  pub field-none : (f : ℕ) → field_count ≤ f → 0 ≡ first_field f
  unfolding first_true
  field-none f h = let k : field_count - f ≡ 0 = omega arith in sym (ap (first_over f) k)
