-- Bytes put in registers one after the other. Assumes nothing.
use mathlib.Core.Path.{◌≡◌, refl, sym, ap, ap₂, ◌∙◌}
use mathlib.Core.List.{List, ◌∷◌}
use Prim.Native.Nat.{ℕ, zero, suc, ◌+◌, ◌-◌, ◌≤◌, ◌<◌}
use native.Mathlib.Numerals.{add-one}
use native.Mathlib.Omega.{arith}
use lib.IntN.{ℤ, pos}
use lib.ListN.{length, get_or, take, drop}
use lib.Seq.{drop-cons, drop-length}
use Rattle.field_table.specs.Writes.{Write, put, puts}
use Rattle.field_table.specs.Blocks.{byte_writes, slice}

-- a whole register set
abbrev pub byte_write : ℕ → ℕ → Write
byte_write r b = record { register = r; place = 0; width = 8; value = b }

module _ (r : ℕ) (bs : List ℕ) (i : ℕ) where
  -- the bytes from the i-th on: it, and those after it
  bytes_next : i < length bs → byte_writes (r + i) (drop i bs) ≡ byte_write (r + i) (get_or bs i 0) ∷ byte_writes (r + (i + 1)) (drop (i + 1) bs)
  unfolding byte_writes
  bytes_next h =
      let e : suc (r + i) ≡ r + (i + 1) = omega arith in
      ap (byte_writes (r + i)) (drop-cons bs i 0 h)
      ∙ ap₂ (λ (k j : ℕ). byte_write (r + i) (get_or bs i 0) ∷ byte_writes k (drop j bs)) e (sym (add-one i))

  pub puts-bytes-next : (image : List ℕ) → i < length bs
      → puts image (byte_writes (r + i) (drop i bs)) ≡ puts (put image (byte_write (r + i) (get_or bs i 0))) (byte_writes (r + (i + 1)) (drop (i + 1) bs))
  unfolding puts
  puts-bytes-next image h = ap (puts image) (bytes_next h)

  -- none after the last
  pub puts-bytes-end : (image : List ℕ) → length bs ≤ i → i ≤ length bs → puts image (byte_writes (r + i) (drop i bs)) ≡ image
  unfolding puts byte_writes
  puts-bytes-end image past to =
      let e : i ≡ length bs = omega arith in
      ap (λ (k : ℕ). puts image (byte_writes (r + i) (drop k bs))) e ∙ ap (λ (l : List ℕ). puts image (byte_writes (r + i) l)) (drop-length bs)

-- ---- some of the settings' numbers

pub numbers_part : (zs : List ℤ) (k n : ℕ) → k + n ≤ length zs → slice (pos 0) zs k n ≡ take n (drop k zs)
unfolding slice
numbers_part zs k zero h = refl
numbers_part zs k (suc n) h =
    ap (λ (l : List ℤ). get_or zs k (pos 0) ∷ l) (numbers_part zs (suc k) n (omega arith)) ∙ ap (take (suc n)) (sym (drop-cons zs k (pos 0) (omega arith)))

-- the part that begins at index i
pub part_numbers : (zs : List ℤ) {i : ℕ} (k n : ℕ) → i ≡ k → k + n ≤ length zs → take ((i + n) - i) (drop i zs) ≡ slice (pos 0) zs k n
part_numbers zs {i} k n e h =
    let size : (i + n) - i ≡ n = omega arith in
    ap₂ (λ (m j : ℕ). take m (drop j zs)) size e ∙ sym (numbers_part zs k n h)
