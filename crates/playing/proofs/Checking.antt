-- What is found before a call's plan is what playing answers, or nothing is at fault there. Assumes nothing.
use mathlib.Core.Path.{◌≡◌, refl, subst}
use mathlib.Core.Bool.{Bool, true, false, cond, ◌&&◌}
use Prim.Native.Nat.{ℕ}
use native.Mathlib.Omega.{arith}
use lib.Dec.{eqb}
use lib.ListN.{length}
use borrow.Author.Tests.{eqb-true, eqb-false}
use Rattle.refusals.specs.Refusal.{accepted, refused}
use Rattle.refusals.specs.Verdict.{refused_at}
use Rattle.bus.specs.Address.{address_right}
use Rattle.playing.specs.Playing.{Call}
use Rattle.playing.specs.Checking.{checked_before}
use Rattle.playing.proofs.Faults.{Left, image_fault, used_fault, own_fault}

-- a fault found there is the call's, which leaves all as it was
pub call_fault : (c : Call) (known : ℕ) {n : ℕ} → refused n ≡ checked_before (length c.image) c.kind.count c.used c.kind.address
    → Left c known (refused_at n 0) c.image known
call_fault c known {n} e =
    by (eqb (length c.image) c.kind.count) refl (address_right c.used) refl (address_right c.kind.address) refl e
  where
    by : (p : Bool) → eqb (length c.image) c.kind.count ≡ p → (q : Bool) → address_right c.used ≡ q → (r : Bool) → address_right c.kind.address ≡ r
        → refused n ≡ cond p (cond (q && r) (accepted (tt {0})) (refused 2)) (refused 1) → Left c known (refused_at n 0) c.image known
    by false h q i r j e =
        let same : 1 ≡ n = cc in
        subst (λ (k : ℕ). Left c known (refused_at k 0) c.image known) same (image_fault c known (eqb-false (length c.image) c.kind.count h))
    by true h false i r j e =
        let same : 2 ≡ n = cc in
        subst (λ (k : ℕ). Left c known (refused_at k 0) c.image known) same (used_fault c known (eqb-true (length c.image) c.kind.count h) i)
    by true h true i false j e =
        let same : 2 ≡ n = cc in
        subst (λ (k : ℕ). Left c known (refused_at k 0) c.image known) same (own_fault c known (eqb-true (length c.image) c.kind.count h) i j)
    by true h true i true j e = let z : ◌≡◌ {A = ℕ} 0 1 = cc in absurd (omega arith)

-- where none is, the image has a byte a register, and both addresses are right
pub call_right : (bytes registers used own : ℕ) {u : Unit {0}} → accepted u ≡ checked_before bytes registers used own
    → (bytes ≡ registers) × (address_right used ≡ true) × (address_right own ≡ true)
call_right bytes registers used own {u} e = by (eqb bytes registers) refl (address_right used) refl (address_right own) refl e
  where
    by : (p : Bool) → eqb bytes registers ≡ p → (q : Bool) → address_right used ≡ q → (r : Bool) → address_right own ≡ r
        → accepted u ≡ cond p (cond (q && r) (accepted (tt {0})) (refused 2)) (refused 1)
        → (bytes ≡ registers) × (address_right used ≡ true) × (address_right own ≡ true)
    by false h q i r j e = let z : ◌≡◌ {A = ℕ} 0 1 = cc in absurd (omega arith)
    by true h false i r j e = let z : ◌≡◌ {A = ℕ} 0 1 = cc in absurd (omega arith)
    by true h true i false j e = let z : ◌≡◌ {A = ℕ} 0 1 = cc in absurd (omega arith)
    by true h true i true j e = (eqb-true bytes registers h, i, j)
