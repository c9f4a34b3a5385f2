-- The text of a plan: how long it is, and that its parts are written one after the other. Assumes nothing.
use mathlib.Core.Path.{◌≡◌, refl, sym, ap, ◌∙◌}
use mathlib.Core.List.{List, [], ◌∷◌, ◌++◌, append_assoc, append-nil, flat_map}
use Prim.Native.Nat.{ℕ, ◌+◌, ◌*◌, ◌≤◌, ◌<◌}
use native.Mathlib.Omega.{arith}
use lib.ListN.{length, set, length-append}
use Rattle.bus.specs.Transactions.{Transaction, size, bus_bytes}
use Rattle.bus.specs.Cost.{data_count}
use Rattle.text.specs.Line.{appended}
use Rattle.text.specs.Text.{space, line_end, decimal, hex_byte, hex_text}
use Rattle.text.proofs.Appending.{in_a_row, stored}
use Rattle.listing.specs.Lines.{counts_line, plan_line}
use Rattle.plan_listing.specs.PlanText.{transaction_line}

-- the data, a space before each, and the line end
abbrev pub data_text : List ℕ → List ℕ
data_text bs = hex_text bs ++ line_end

-- the text of a plan: transactions, bus bytes, then the lines
abbrev pub plan_text : List Transaction → List ℕ
plan_text ts = plan_line (length ts) (bus_bytes ts) ++ flat_map transaction_line ts

-- ---- lengths

-- the first line: its numbers, and seven bytes
pub first-length : (n k : ℕ) → length (plan_line n k) ≡ length (decimal n) + length (decimal k) + 7
unfolding counts_line
first-length n k = simp length-append (omega arith)

-- three bytes a datum, and the line end
pub data_length : (bs : List ℕ) → length (data_text bs) ≡ 3 * length bs + 1
unfolding hex_text flat_map hex_byte
data_length [] = refl
data_length (b ∷ bs) = omega (arith, data_length bs)

-- three bytes for the subaddress with the line end, and three a datum
pub line_length : (t : Transaction) → length (transaction_line t) ≡ 3 * (size t + 1)
unfolding transaction_line hex_byte
line_length t = omega (arith, data_length t.bytes)

pub lines-length : (ts : List Transaction) → length (flat_map transaction_line ts) ≡ 3 * (length ts + data_count ts)
unfolding flat_map data_count
lines-length [] = refl
lines-length (t ∷ ts) = omega (arith, length-append (transaction_line t) (flat_map transaction_line ts), line_length t, lines-length ts)

-- the whole
pub text_length : (ts : List Transaction) → length (plan_text ts) ≡ length (plan_line (length ts) (bus_bytes ts)) + 3 * (length ts + data_count ts)
text_length ts = omega (arith, length-append (plan_line (length ts) (bus_bytes ts)) (flat_map transaction_line ts), lines-length ts)

-- ---- one part after the other

module _ (out : List ℕ) (at : ℕ) where
  -- a datum, and then the others
  pub datum : (b : ℕ) (bs : List ℕ) → at + (3 + length (data_text bs)) ≤ length out
      → appended (appended (set out at 0x20) (at + 1) (hex_byte b)) (at + 3) (data_text bs) ≡ appended out at (data_text (b ∷ bs))
  unfolding hex_text flat_map hex_byte
  datum b bs h =
      ap (λ (l : List ℕ). appended (appended l (at + 1) (hex_byte b)) (at + 3) (data_text bs)) (stored out at 0x20 (omega arith))
      ∙ ap (λ (l : List ℕ). appended l (at + 3) (data_text bs)) (in_a_row out at space (hex_byte b) (omega arith))
      ∙ in_a_row out at (space ++ hex_byte b) (data_text bs) h

  -- no datum more: the line end
  pub no_datum : at < length out → set out at 0x0a ≡ appended out at (data_text [])
  unfolding hex_text flat_map
  no_datum h = stored out at 0x0a h

  -- a subaddress, and then the data
  pub line : (t : Transaction) → at + (2 + length (data_text t.bytes)) ≤ length out
      → appended (appended out at (hex_byte t.subaddress)) (at + 2) (data_text t.bytes) ≡ appended out at (transaction_line t)
  unfolding transaction_line hex_byte
  line t h = in_a_row out at (hex_byte t.subaddress) (data_text t.bytes) h

-- ---- one transaction after the other

module _ (text : Transaction → List ℕ) where
  pub lines-append : (ts us : List Transaction) → flat_map text (ts ++ us) ≡ flat_map text ts ++ flat_map text us
  unfolding flat_map
  lines-append [] us = refl
  lines-append (t ∷ ts) us = ap (λ (l : List ℕ). text t ++ l) (lines-append ts us) ∙ sym (append_assoc (text t) (flat_map text ts) (flat_map text us))

  -- one transaction more
  pub lines_more : (ts : List Transaction) (t : Transaction) → flat_map text ts ++ text t ≡ flat_map text (ts ++ (t ∷ []))
  unfolding flat_map
  lines_more ts t = ap (λ (l : List ℕ). flat_map text ts ++ l) (sym (append-nil (text t))) ∙ sym (lines-append ts (t ∷ []))
