-- The map that the code hands to the chip says which registers keep a byte. Assumes nothing.
use mathlib.Core.Path.{◌≡◌, refl, sym, ap, ap₂, ◌∙◌, fun_ext}
use mathlib.Core.Bool.{Bool, true, false, not}
use mathlib.Core.List.{List}
use Prim.Native.Nat.{ℕ}
use native.Mathlib.Omega.{arith}
use lib.Dec.{ltb, eqb}
use lib.ListN.{length}
use borrow.Author.Tests.{ltb-true, ltb-false, ne_eqb}
use Rattle.bits.specs.Maps.{has}
use Rattle.bits.proofs.SetLaws.{has-past}
use Rattle.bus.specs.declared.chip.State.{State}
use Rattle.bus.specs.declared.chip.Event.{Event}
use Rattle.bus.specs.Chip.{Kind, step}
use Rattle.bus.specs.Lent.{kind_of, chip_at, step_of}
use Rattle.adv7194_bus.specs.Kind.{register_count, read_only, adv7194}
use Rattle.adv7194_bus.specs.Step.{step_by}
use Rattle.bits.proofs.Checks.{agrees, same_bool, below, at-below}

-- the map as the code has it
abbrev dropped : ℕ
dropped = 0x10000000000000

-- a register is in the map exactly where it is the read-only one
in_map : (r : ℕ) → has dropped r ≡ eqb r read_only
unfolding below agrees
in_map r = split (ltb r 53) refl
  where
    split : (b : Bool) → ltb r 53 ≡ b → has dropped r ≡ eqb r read_only
    split true e = same_bool (has dropped r) (eqb r read_only) (at-below 53 (λ k. agrees (has dropped k) (eqb k read_only)) tt r (ltb-true r 53 e))
    split false e =
        let h = ltb-false r 53 e in
        has-past 53 dropped r (omega arith) h ∙ sym (ne_eqb r read_only (omega arith))

-- the chip as the code calls it is the ADV7194
pub kind-map : (own n : ℕ) → n ≡ register_count → kind_of own dropped n ≡ adv7194 own
kind-map own n h =
    ap₂ (λ (n : ℕ) (f : ℕ → Bool). record { count = n; keeps = f; address = own }) h (fun_ext (λ r. ap not (in_map r)))

-- and so is what it does at an event
pub step_map : (own : ℕ) (s : State) (l : List ℕ) (e : Event) → length l ≡ register_count → step_of own dropped s l e ≡ step_by own s l e
step_map own s l e h = ap (λ (κ : Kind). step κ (chip_at s.phase s.pointer l) e) (kind-map own (length l) h)
