-- Numbers stored one after the other, from an index on. Assumes nothing.
use Rattle.std.proofs.Common.{◌≡◌, refl, ℕ, ◌+◌, ◌<◌, ◌≤◌, length, List, [], ◌∷◌, pos, ℤ, get_or, drop, suc, sym, ap, ap₂, ◌∙◌, add-one, arith}
use Rattle.std.proofs.Math.Seq.{drop-cons, drop-length}
use Rattle.std.proofs.Math.ListN.{set, length-set}
use Rattle.field_table.specs.Blocks.{store_from}

-- how many numbers there are stays
pub stored-length : (zs : List ℤ) (k : ℕ) (vs : List ℤ) → length (store_from zs k vs) ≡ length zs
unfolding store_from
stored-length zs k [] = refl
stored-length zs k (v ∷ vs) = stored-length (set zs k v) (suc k) vs ∙ length-set zs k v

module _ (k : ℕ) (vs : List ℤ) (i : ℕ) (zs : List ℤ) where
  -- the next of those that are left
  pub stored-next : i < length vs → store_from zs (k + i) (drop i vs) ≡ store_from (set zs (k + i) (get_or vs i (pos 0))) (k + (i + 1)) (drop (i + 1) vs)
  unfolding store_from
  stored-next h =
      let e : suc (k + i) ≡ k + (i + 1) = omega arith in
      ap (store_from zs (k + i)) (drop-cons vs i (pos 0) h)
      ∙ ap₂ (λ (j n : ℕ). store_from (set zs (k + i) (get_or vs i (pos 0))) j (drop n vs)) e (sym (add-one i))

  -- none is left
  pub stored-end : length vs ≤ i → i ≤ length vs → store_from zs (k + i) (drop i vs) ≡ zs
  unfolding store_from
  stored-end past to =
      let e : i ≡ length vs = omega arith in
      rw (e, drop-length vs)
