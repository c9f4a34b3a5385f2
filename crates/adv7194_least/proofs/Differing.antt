-- What must be written may be: known registers that differ, and unknown ones that are fixed, have a field or a must-be-zero bit, and so have the word's.
-- Assumes nothing.
use mathlib.Core.Path.{◌≡◌, refl, sym, ◌∙◌}
use mathlib.Core.Bool.{Bool, true, false, or-true}
use Prim.Native.Nat.{ℕ, ◌≤◌, ◌<◌}
use native.Mathlib.Omega.{arith}
use lib.Dec.{T, ltb}
use lib.ListN.{get_or, get_or-eq_default}
use borrow.Author.Tests.{ltb-true, ltb-false}
use Rattle.rounding.proofs.Range.{below, below_at, imp, imp→, T→true}
use Rattle.adv7194_table.specs.Fields.{timing, output, picture, dnr}
use Rattle.adv7194_table.specs.Table.{table}
use Rattle.adv7194_table.specs.Masks.{mask_where, field_mask, zero_mask}
use Rattle.bits.proofs.FlagLaws.{both_true}
use Rattle.bus.specs.Registers.{differs}
use Rattle.bus.proofs.RegisterLaws.{among_in, not_both}
use Rattle.adv7194_bus.specs.Kind.{register_count}
use Rattle.adv7194_bus.specs.Board.{knows}
use Rattle.adv7194_bus.proofs.LimitLaws.{right-limit}
use Rattle.adv7194_least.specs.Aim.{Aim, must, compared}
use Rattle.adv7194_least.specs.Change.{settable, Change}
use Rattle.adv7194_least.specs.Plan.{writable, may}
use Rattle.adv7194_least.proofs.TaskLaws.{Permits}

-- ---- the fields' registers may be written

-- one test over the masks
abbrev field_test : ℕ → Bool
field_test r = imp (settable r) (writable r)

-- it passes
fields-writable : T (below field_test register_count)
unfolding settable field_mask zero_mask mask_where table timing output picture dnr
fields-writable = tt

-- a register with a field or a must-be-zero bit may be written
pub settable-writable : (r : ℕ) → r < register_count → settable r ≡ true → writable r ≡ true
settable-writable r h e = T→true (writable r) (imp→ (settable r) (writable r) (below_at field_test register_count fields-writable r h) e)

-- ---- so may those that differ

module _ (a : Aim) (χ : Change a) where
  -- past the last register neither image has a byte
  pub same-past : (r : ℕ) → register_count ≤ r → get_or a.board.registers r 0 ≡ get_or a.wanted r 0
  same-past r h =
      let x = χ.found.size in
      let y = χ.wants.size in
      get_or-eq_default a.board.registers 0 (omega arith) ∙ sym (get_or-eq_default a.wanted 0 (omega arith))

  -- a register that differs has a field or a must-be-zero bit
  pub differs-settable : (r : ℕ) → differs a.board.registers a.wanted r ≡ true → (r < register_count) × (settable r ≡ true)
  differs-settable r d = inside (ltb r register_count) refl (settable r) refl
    where
      inside : (x : Bool) → ltb r register_count ≡ x → (y : Bool) → settable r ≡ y → (r < register_count) × (settable r ≡ true)
      inside true e true f = (ltb-true r register_count e, f)
      inside true e false f = absurd (not_both a.board.registers a.wanted r d (sym (χ.kept r (ltb-true r register_count e) f)))
      inside false e y f = absurd (not_both a.board.registers a.wanted r d (same-past r (ltb-false r register_count e)))

  -- and so has one that must be written
  pub must-settable : (r : ℕ) → must a r ≡ true → (r < register_count) × (settable r ≡ true)
  must-settable r m = split (knows a.board r) refl
    where
      split : (b : Bool) → knows a.board r ≡ b → (r < register_count) × (settable r ≡ true)
      split true e = differs-settable r (rw e at m)
      split false e = χ.fixed r (rw e at m)

  -- which is compared
  pub must-compared : (r : ℕ) → must a r ≡ true → compared a r ≡ true
  must-compared r m = split (knows a.board r) refl
    where
      split : (b : Bool) → knows a.board r ≡ b → compared a r ≡ true
      split true e = rw e
      split false e = let f : a.fixes r ≡ true = rw e at m in rw (e, f)

  -- a fixed register is compared
  fixed-compared : (r : ℕ) → a.fixes r ≡ true → compared a r ≡ true
  fixed-compared r f = rw f (or-true (knows a.board r))

  -- a compared register with such a bit may be written
  settable-may : (r : ℕ) → (r < register_count) × (settable r ≡ true) → compared a r ≡ true → may a r ≡ true
  settable-may r s c = rw (settable-writable r s.0 s.1, c)

  -- the task of planning is made from such registers
  pub permits : Permits a.limit (must a) (may a)
  permits = record {
    least = (right-limit a.limit χ.limited).0;
    writes = λ r e. (both_true (writable r) (compared a r) e).0;
    musts = λ r m. settable-may r (must-settable r m) (must-compared r m);
    word = λ r h k. let f = χ.word r (among_in 0x0c 0x0f r h k) in settable-may r (χ.fixed r f) (fixed-compared r f);
  }
