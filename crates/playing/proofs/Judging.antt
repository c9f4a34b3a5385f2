-- A plan's list by its packing and a test. Assumes nothing.
use mathlib.Core.Path.{◌≡◌, refl, sym, ap, ◌∙◌, subst}
use mathlib.Core.Logic.{◌↔◌}
use mathlib.Core.Bool.{Bool, true, false, cond, ◌&&◌}
use mathlib.Core.List.{List, [], ◌∷◌}
use Prim.Native.Nat.{ℕ, ◌<◌}
use lib.Dec.{T, leb}
use Rattle.bits.proofs.FlagLaws.{first, second}
use Rattle.refusals.specs.Refusal.{Judged, accepted, refused}
use Rattle.bus.specs.Transactions.{Transaction, size, end}
use Rattle.packing.specs.Packing.{encodable, arranged}
use Rattle.unpacking.specs.Unpacking.{unpack_by}
use Rattle.unpacking.proofs.Tests.{encodable_facts}
use Rattle.unpacking.proofs.Exact.{unpacks_packed, exact, in_order, refused_nine}
use Rattle.playing.specs.Playing.{Call, judged_if, judged, JudgedBy}
use Rattle.bits.specs.Lists.{Every}

module _ (test : List Transaction → Bool) where
  -- what it is judged as, by what the test says
  pub by_test : {j : Judged (List Transaction)} {ts : List Transaction} {b : Bool} → j ≡ accepted ts → test ts ≡ b
      → judged_if test j ≡ cond b (accepted ts) (refused 9)
  by_test {j} {ts} {b} e f = ap (judged_if test) e ∙ ap (λ (x : Bool). cond x (accepted ts) (refused 9)) f

  -- a list that is accepted was unpacked, and passes the test
  pub was_taken : (j : Judged (List Transaction)) (ts : List Transaction) → judged_if test j ≡ accepted ts → (j ≡ accepted ts) × (test ts ≡ true)
  was_taken (accepted us) ts e = go (test us) refl e
    where
      go : (b : Bool) → test us ≡ b → cond b (accepted us) (refused 9) ≡ accepted ts → (accepted us ≡ accepted ts) × (test ts ≡ true)
      go true p q = let same : us ≡ ts = cc in (q, subst (λ (l : List Transaction). test l ≡ true) same p)
      go false p q = absurd cc
  was_taken (refused n) ts e = absurd cc

-- a plan is refused by 9 only
pub only_nine : (c : Call) (n : ℕ) → judged c ≡ refused n → 9 ≡ n
only_nine c n e = go (unpack_by c.next c.plan) refl e
  where
    by : (ts : List Transaction) (b : Bool) → cond b (accepted ts) (refused 9) ≡ refused n → 9 ≡ n
    by ts true q = absurd cc
    by ts false q = cc

    go : (j : Judged (List Transaction)) → unpack_by c.next c.plan ≡ j → judged_if c.takes j ≡ refused n → 9 ≡ n
    go (accepted ts) p q = by ts (c.takes ts) q
    go (refused m) p q = refused_nine c.next c.plan m p ∙ cc

-- where the call's test is what it should take, of lists that were unpacked, the plan is judged so
pub judged_by : (Takes : List Transaction → Type 0) (c : Call)
    → ((ts : List Transaction) → unpack_by c.next c.plan ≡ accepted ts → (c.takes ts ≡ true) ↔ Takes ts) → JudgedBy Takes c
judged_by Takes c agree = record {
  accepts = λ ts. (
    λ e. let t = was_taken c.takes (unpack_by c.next c.plan) ts e in ((exact c.next c.plan ts).0 t.0, (agree ts t.0).0 t.1),
    λ k. let u = (exact c.next c.plan ts).1 k.0 in by_test c.takes u ((agree ts u).1 k.1),
  );
  refuses = λ n e. sym (only_nine c n e);
}

-- transactions in an order that the packing demands have data
all_sized : (next : ℕ → ℕ) (free : ℕ) (ts : List Transaction) → T (arranged next free ts) → Every (λ t. 0 < size t) ts
unfolding arranged
all_sized next free [] o = tt
all_sized next free (t ∷ ts) o =
    let rest = arranged next (next (end t)) ts in
    let o₁ = second (leb free t.subaddress) (encodable t && rest) o in
    ((encodable_facts t (first (encodable t) rest o₁)).some, all_sized next (next (end t)) ts (second (encodable t) rest o₁))

-- so do those that were unpacked
pub unpacked_sized : (next : ℕ → ℕ) (plan : List ℕ) (ts : List Transaction) → unpack_by next plan ≡ accepted ts → Every (λ t. 0 < size t) ts
unpacked_sized next plan ts e = all_sized next 0 ts (in_order next ts (unpacks_packed next plan ts e).0)
