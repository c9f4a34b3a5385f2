-- Lines of registers one after the other; and the most bytes of those of transactions. Assumes nothing.
use mathlib.Core.Path.{◌≡◌, refl, ap, ap₂, ◌∙◌}
use mathlib.Core.List.{List, [], ◌∷◌, ◌++◌}
use Prim.Native.Nat.{ℕ, suc, ◌+◌, ◌-◌, ◌*◌, ◌≤◌, ◌<◌}
use native.Mathlib.Nat.{add-zero, sub-zero}
use native.Mathlib.Omega.{arith}
use lib.ListN.{length}
use Rattle.bus.specs.Transactions.{Transaction, size}
use Rattle.bus.specs.Cost.{data_count}
use Rattle.packing.specs.Packing.{behind}
use Rattle.packing.proofs.PackedLaws.{packed-length}
use Rattle.unpacking.specs.Unpacking.{unpack}
use Rattle.unpacking.specs.Listed.{listed, Accepted}
use Rattle.unpacking.proofs.Exact.{unpacks_packed}
use Rattle.adv7194_reasons.specs.Reasons.{Reason}
use Rattle.why_lines.specs.RegisterLine.{register_line}
use Rattle.why_listing.specs.WhyText.{register_lines}
use Rattle.why_listing.specs.Parts.{transaction_width, byte_width}

-- ---- registers

module _ (why : ℕ → Reason) (first count : ℕ) where
  -- the lines from the i-th register on
  abbrev pub lines_from : ℕ → List ℕ
  lines_from i = register_lines why (count - i) (first + i)

  -- the first one's, and the others'
  pub lines_turn : (i : ℕ) → i < count → lines_from i ≡ register_line (first + i) (why (first + i)) ++ lines_from (i + 1)
  unfolding register_lines
  lines_turn i h =
      let c : count - i ≡ suc (count - (i + 1)) = omega arith in
      let n : suc (first + i) ≡ first + (i + 1) = omega arith in
      ap (λ (k : ℕ). register_lines why k (first + i)) c
      ∙ ap (λ (r : ℕ). register_line (first + i) (why (first + i)) ++ register_lines why (count - (i + 1)) r) n

  -- all of them, and none
  pub lines-all : lines_from 0 ≡ register_lines why count first
  lines-all = ap₂ (register_lines why) (sub-zero count) (add-zero first)

  pub lines_end : (i : ℕ) → count ≤ i → lines_from i ≡ []
  unfolding register_lines
  lines_end i h = let c : count - i ≡ 0 = omega arith in ap (λ (k : ℕ). register_lines why k (first + i)) c

-- ---- the most bytes

-- of the lines of some transactions
unfoldable pub list_width : List Transaction → ℕ
list_width [] = 0
list_width (t ∷ ts) = transaction_width (size t) + list_width ts

pub width-append : (ts us : List Transaction) → list_width (ts ++ us) ≡ list_width ts + list_width us
unfolding list_width
width-append [] us = omega arith
width-append (t ∷ ts) us = omega (arith, width-append ts us)

-- of one transaction more
pub width-more : (ts : List Transaction) (t : Transaction) → list_width (ts ++ (t ∷ [])) ≡ list_width ts + transaction_width (size t)
unfolding list_width
width-more ts t = omega (arith, width-append ts (t ∷ []))

-- three for each transaction, and so many for each data byte
list-width : (ts : List Transaction) → list_width ts ≡ 3 * length ts + byte_width * data_count ts
unfolding list_width data_count
list-width [] = refl
list-width (t ∷ ts) = omega (arith, list-width ts)

-- as many for each byte of a well-formed plan are enough
pub plan-width : (plan : List ℕ) → Accepted plan → list_width (listed (unpack plan)) ≤ byte_width * length plan
plan-width plan e =
    let ts = listed (unpack plan) in
    omega (arith, list-width ts, ap length (unpacks_packed behind plan ts e).1, packed-length ts)
