-- The answer of reading: what comes first of row 11 and the image's fault, and what is left in the lent numbers. Assumes nothing.
use mathlib.Core.Path.{◌≡◌, sym, ap, ◌∙◌}
use mathlib.Core.Bool.{false, true}
use mathlib.Core.List.{List}
use Prim.Native.Nat.{ℕ, ◌≤◌, ◌<◌}
use lib.Dec.{eqb, ltb}
use lib.IntN.{ℤ}
use lib.ListN.{length}
use borrow.Author.Tests.{ne_eqb, lt-ltb, le-ltb}
use Rattle.refusals.specs.Verdict.{Verdict, good, refused_at, left_by}
use Rattle.refusals.specs.Order.{Exactly}
use Rattle.refusals.proofs.OrderLaws.{exactly}
use Rattle.adv7194_bus.specs.declared.board.Board.{Board}
use Rattle.adv7194_settings.specs.Reading.{row_read, read_order, read_of, read_left, with_unknown}
use Rattle.adv7194_settings.proofs.ReadingLaws.{all-judged}
use Rattle.adv7194_settings.specs.Held.{settings_held}

abbrev Found : Type 0
Found = Verdict (Unit {0})

-- ---- row 11 and the image's fault

-- no field has an unknown register
pub judged-all : {u : ℕ} (v : Found) → u ≡ 0 → v ≡ with_unknown u v
judged-all v e = sym (ap (λ (n : ℕ). with_unknown n v) e ∙ all-judged v)

module _ {u : ℕ} (h : u ≡ 0 → ⊥) where
  -- nothing is at fault
  pub unknown-only : refused_at 11 u ≡ with_unknown u (good tt)
  unknown-only = let z : eqb u 0 ≡ false = ne_eqb u 0 h in rw z

  -- an earlier field is
  pub fault_first : (n : ℕ) {f : ℕ} → f < u → refused_at n f ≡ with_unknown u (refused_at n f)
  fault_first n {f} l =
      let z : eqb u 0 ≡ false = ne_eqb u 0 h in
      let k : ltb f u ≡ true = lt-ltb f u l in
      rw (z, k)

  -- no earlier one is
  pub unknown-first : (n : ℕ) {f : ℕ} → u ≤ f → refused_at 11 u ≡ with_unknown u (refused_at n f)
  unknown-first n {f} l =
      let z : eqb u 0 ≡ false = ne_eqb u 0 h in
      let k : ltb f u ≡ false = le-ltb f u l in
      rw (z, k)

-- ---- all that is ensured

-- from the answer and what it leaves
pub answered : (b : Board) (zs : List ℤ) {v : Found} {l : List ℤ} → v ≡ read_of b (length zs) → l ≡ left_by zs (settings_held b.registers) v
    → (v ≡ read_of b (length zs)) × ((l ≡ read_left b zs) × Exactly (row_read b (length zs)) read_order tt v)
unfolding read_of
answered b zs e h = (e, (h ∙ ap (left_by zs (settings_held b.registers)) e, exactly (row_read b (length zs)) read_order tt e))
