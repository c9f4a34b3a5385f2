-- What playing asks of a transaction at its turn, by the registers before it; of a list it is the rule and the order. Assumes nothing.
use mathlib.Core.Path.{◌≡◌, refl, sym, ap, ◌∙◌}
use mathlib.Core.Bool.{Bool, true, false, cond, not, xor, ◌&&◌, ◌||◌}
use mathlib.Core.List.{List, [], ◌∷◌}
use Prim.Native.Nat.{ℕ, ◌<◌}
use native.Mathlib.Omega.{arith}
use lib.Dec.{eqb}
use lib.ListN.{length, get_or}
use lib.Seq.{sets, length-sets}
use Rattle.bits.specs.Maps.{has}
use Rattle.bus.specs.Transactions.{Transaction, size, touches}
use Rattle.bus.specs.Run.{idle_at}
use Rattle.bus.proofs.WrittenRun.{next-written}
use Rattle.unpacking.proofs.Writing.{Turns, passes}
use Rattle.adv7195_bus.specs.Kind.{register_count, adv7195}
use Rattle.adv7195_bus.specs.Rules.{Rules, keeps_rules, all_keep_rules}
use Rattle.adv7195_bus.specs.Order.{mode_register3, interpolation_bit, mode_register6, preparing_byte, interpolation, flipped}
use Rattle.adv7195_bus.specs.Order.{byte_for, byte_after, prepared_by, order_from}
use Rattle.adv7195_bus.proofs.RuleLaws.{agree, rules-kept}
use Rattle.adv7195_bus.proofs.OrderLaws.{byte-after}
use Rattle.adv7195_playing.specs.Written.{prepared_after}

-- the registers after a transaction
abbrev pub overwritten : List ℕ → Transaction → List ℕ
overwritten l t = sets l t.subaddress t.bytes

-- it keeps the rule, and where it flips MR36, 3E was the last byte for 09 so far
abbrev pub turns : Turns Bool
turns = record {
  asks = λ p l t. keeps_rules t.subaddress (size t) && (not (flipped l (overwritten l t)) || p);
  goes = λ p l t. prepared_by p t;
}

-- ---- one transaction

module _ (l : List ℕ) (t : Transaction) (long : length l ≡ register_count) (k : Rules t) where
  -- the byte in a register after it
  byte-written : (r : ℕ) → r < register_count → get_or (overwritten l t) r 0 ≡ byte_after r (get_or l r 0) t
  byte-written r h =
      ap (λ (x : List ℕ). get_or x r 0) (sym (next-written (adv7195 0) (idle_at 0 l) t (rules-kept 0 t k))) ∙ byte-after 0 r (idle_at 0 l) t h k long

  -- whether 3E was the last byte for 09 is told by the registers after it
  pub prepared_held : (p : Bool) → prepared_after p (overwritten l t) t.subaddress (size t) ≡ prepared_by p t
  prepared_held p = go (touches t mode_register6) refl
    where
      go : (b : Bool) → touches t mode_register6 ≡ b
          → cond b (eqb (get_or (overwritten l t) mode_register6 0) preparing_byte) p ≡ cond b (eqb (byte_for t mode_register6) preparing_byte) p
      go true e =
          ap (λ (n : ℕ). eqb n preparing_byte)
          (byte-written mode_register6 (omega arith) ∙ ap (λ (b : Bool). cond b (byte_for t mode_register6) (get_or l mode_register6 0)) e)
      go false e = refl

-- ---- a list

-- one test before another
exchanged : (x a o : Bool) → (x && (a && o)) ≡ (a && (x && o))
exchanged true a o = refl
exchanged false true o = refl
exchanged false false o = refl

-- each passes its turn exactly where the list keeps the rule and the order
pub passes_both : (ts : List Transaction) (p : Bool) (l : List ℕ) → length l ≡ register_count
    → passes turns p l ts ≡ (all_keep_rules ts && order_from p (get_or l mode_register3 0) ts)
unfolding passes all_keep_rules order_from interpolation
passes_both [] p l h = refl
passes_both (t ∷ ts) p l h =
    go (keeps_rules t.subaddress (size t)) refl (passes_both ts (prepared_by p t) (overwritten l t) (length-sets l t.subaddress t.bytes ∙ h))
  where
    rest : Bool
    rest = all_keep_rules ts && order_from (prepared_by p t) (get_or (overwritten l t) mode_register3 0) ts

    go : (b : Bool) → keeps_rules t.subaddress (size t) ≡ b → passes turns (prepared_by p t) (overwritten l t) ts ≡ rest
        → passes turns p l (t ∷ ts) ≡ (all_keep_rules (t ∷ ts) && order_from p (get_or l mode_register3 0) (t ∷ ts))
    go true e ih =
        let b = byte-written l t h ((agree t).0 (rw e tt)) mode_register3 (omega arith) in
        let m = get_or l mode_register3 0 in
        let m' = byte_after mode_register3 m t in
        rw (e, ih, b)
        (exchanged (not (xor (has m interpolation_bit) (has m' interpolation_bit)) || p) (all_keep_rules ts) (order_from (prepared_by p t) m' ts))
    go false e ih = rw e
