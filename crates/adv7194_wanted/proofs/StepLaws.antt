-- Steps that check some fields and place their codes, one after the other. Assumes nothing.
use mathlib.Core.Path.{◌≡◌, refl, sym, ap, ◌∙◌}
use mathlib.Core.List.{List, [], ◌∷◌, ◌++◌}
use Prim.Native.Nat.{ℕ}
use lib.ListN.{length}
use Rattle.refusals.specs.Verdict.{good, after}
use Rattle.refusals.proofs.VerdictLaws.{after-good, after_assoc}
use Rattle.field_table.specs.Writes.{Write, put, puts}
use Rattle.field_table.proofs.WriteLaws.{then_puts, puts-length}
use Rattle.adv7194_wanted.proofs.RowLaws.{Found}

-- from a verdict and an image to others, by a fault and some writes
pub record Step (v : Found) (image : List ℕ) (f : Found) (ws : List Write) (w : Found) (out : List ℕ) : Type 0 where
  pub verdict : w ≡ after v f
  pub registers : out ≡ puts image ws

module _ {v : Found} {image : List ℕ} where
  -- nothing
  pub none : Step v image (good tt) [] v image
  unfolding puts
  none = record { verdict = sym (after-good v); registers = refl }

  -- a check alone, one write, writes alone
  pub checks : {f w : Found} → w ≡ after v f → Step v image f [] w image
  unfolding puts
  checks e = record { verdict = e; registers = refl }

  pub one : {f w : Found} {out : List ℕ} {x : Write} → w ≡ after v f → out ≡ put image x → Step v image f (x ∷ []) w out
  unfolding puts
  one e h = record { verdict = e; registers = h }

  pub writes : {out : List ℕ} {ws : List Write} → out ≡ puts image ws → Step v image (good tt) ws v out
  writes e = record { verdict = sym (after-good v); registers = e }

  pub step : {f w : Found} {out : List ℕ} {ws : List Write} → w ≡ after v f → out ≡ puts image ws → Step v image f ws w out
  step e h = record { verdict = e; registers = h }

  -- one after the other
  pub and_then : {f g w x : Found} {mid out : List ℕ} {ws us : List Write} → Step v image f ws w mid → Step w mid g us x out
      → Step v image (after f g) (ws ++ us) x out
  and_then {f} {g} {w} {x} {mid} {out} {ws} {us} p q =
      record {
        verdict = q.verdict ∙ ap (λ (u : Found). after u g) p.verdict ∙ after_assoc v f g;
        registers = then_puts mid image ws us q.registers p.registers;
      }

  -- as many registers as before
  pub same_size : {f w : Found} {out : List ℕ} {ws : List Write} → Step v image f ws w out → length out ≡ length image
  same_size {f} {w} {out} {ws} p = ap length p.registers ∙ puts-length image ws
