-- Laws of what is at fault: the row of a field and its bits, and how short the line of a refusal is. Assumes nothing.
use mathlib.Core.Path.{◌≡◌, refl, sym, ap, ◌∙◌}
use mathlib.Core.Bool.{Bool, true, false, cond, ◌&&◌}
use mathlib.Core.List.{List, [], ◌∷◌}
use Prim.Native.Nat.{ℕ, zero, suc, ◌+◌, ◌≤◌, ◌<◌}
use native.Mathlib.Numerals.{add-one}
use native.Mathlib.Omega.{arith}
use lib.Dec.{eqb, leb}
use lib.IntN.{pos}
use lib.ListN.{length, get_or, drop, length-append}
use lib.Seq.{drop-cons}
use borrow.Author.Tests.{eq-eqb, ne_eqb, leb-true}
use Rattle.text.proofs.Numerals.{decimal-most}
use Rattle.listing.specs.Lines.{refused_line, counts_line}
use Rattle.refusals.specs.declared.Refusal.{Refusal}
use Rattle.refusals.specs.declared.Refusal.TheVariants.{ImageLength, BusAddress, OutOfRange, Reserved, SquarePixelWithOversampling, PedestalWithPal}
use Rattle.refusals.specs.declared.Refusal.TheVariants.{SignallingConflict, Disagreement, PlanBytes, PlanRoom, RegisterUnknown}
use Rattle.refusals.specs.Refusal.{number_of}
use Rattle.field_table.specs.declared.row.Row.{Row}
use Rattle.field_table.specs.Rows.{row_of}
use Rattle.adv7194_table.specs.Fields.{timing, output, picture, dnr}
use Rattle.adv7194_table.specs.Table.{table, single_fields, rows_in, rows_of}
use Rattle.adv7194_listing.specs.Faults.{row_at, field_row}

-- ---- the row of a field

-- the table has 26 rows
all_rows : length (rows_in (single_fields table)) ≡ 26
unfolding table single_fields rows_in timing output picture dnr
all_rows = refl

as_many : (ps : List ℕ) → length (rows_of ps) ≡ length ps
unfolding rows_of
as_many [] = refl
as_many (p ∷ ps) = ap suc (as_many ps)

-- so that many numbers are packed
pub packed_rows : (ps : List ℕ) → rows_of ps ≡ rows_in (single_fields table) → length ps ≡ 26
packed_rows ps e = sym (as_many ps) ∙ ap length e ∙ all_rows

module _ (f : ℕ) (ps : List ℕ) (i : ℕ) where
  next_row : i < length ps → row_at f (rows_of (drop i ps)) ≡ cond (eqb f (row_of (get_or ps i 0)).field) (row_of (get_or ps i 0)) (row_at f (rows_of (drop (suc i) ps)))
  unfolding row_at rows_of
  next_row h = ap (λ (l : List ℕ). row_at f (rows_of l)) (drop-cons ps i 0 h)

  -- a row of the field is the one
  pub row_here : i < length ps → (row_of (get_or ps i 0)).field ≡ f → row_at f (rows_of (drop i ps)) ≡ row_of (get_or ps i 0)
  row_here h e = next_row h ∙ rw (eq-eqb f (row_of (get_or ps i 0)).field (sym e))

  -- another is passed
  pub row-past : i < length ps → ((row_of (get_or ps i 0)).field ≡ f → ⊥) → row_at f (rows_of (drop i ps)) ≡ row_at f (rows_of (drop (i + 1) ps))
  row-past h e = next_row h ∙ rw (ne_eqb f (row_of (get_or ps i 0)).field (λ q. e (sym q))) (ap (λ (j : ℕ). row_at f (rows_of (drop j ps))) (sym (add-one i)))

-- past the last there is none
pub row-none : (f : ℕ) (ps : List ℕ) (i : ℕ) → length ps ≤ i
    → row_at f (rows_of (drop i ps)) ≡ record { field = 0; index = 0; register = 0; bit = 0; width = 0; low = pos 0; high = pos 0; outside = 0 }
unfolding row_at rows_of
row-none f [] zero h = refl
row-none f [] (suc i) h = refl
row-none f (p ∷ ps) zero h = absurd (omega arith)
row-none f (p ∷ ps) (suc i) h = row-none f ps i (omega arith)

-- ---- its bits

-- the bits of some rows lie within a register
bits_in : List Row → Bool
bits_in [] = true
bits_in (r ∷ rs) = leb (r.bit + r.width) 8 && bits_in rs

table-bits : bits_in (rows_in (single_fields table)) ≡ true
unfolding bits_in table single_fields rows_in timing output picture dnr
table-bits = refl

both : (a b : Bool) → (a && b) ≡ true → (a ≡ true) × (b ≡ true)
both true b e = (refl, e)
both false true e = (e, refl)
both false false e = (e, e)

row-bits : (f : ℕ) (rs : List Row) → bits_in rs ≡ true → (row_at f rs).bit + (row_at f rs).width ≤ 8
unfolding row_at bits_in
row-bits f [] e = omega arith
row-bits f (r ∷ rs) e =
    let h = both (leb (r.bit + r.width) 8) (bits_in rs) e in
    pick (eqb f r.field) (leb-true (r.bit + r.width) 8 h.0) (row-bits f rs h.1)
  where
    pick : (b : Bool) → r.bit + r.width ≤ 8 → (row_at f rs).bit + (row_at f rs).width ≤ 8
        → (cond b r (row_at f rs)).bit + (cond b r (row_at f rs)).width ≤ 8
    pick true p q = p
    pick false p q = q

-- those of a field's row do
pub field-bits : (f : ℕ) {r : Row} → r ≡ field_row f → r.bit + r.width ≤ 8
field-bits f e = rw e (row-bits f (rows_in (single_fields table)) table-bits)

-- ---- the line of a refusal

-- its number has at most two digits
pub number_small : (r : Refusal) → number_of r < 1000
number_small ImageLength = omega arith
number_small BusAddress = omega arith
number_small OutOfRange = omega arith
number_small Reserved = omega arith
number_small SquarePixelWithOversampling = omega arith
number_small PedestalWithPal = omega arith
number_small SignallingConflict = omega arith
number_small Disagreement = omega arith
number_small PlanBytes = omega arith
number_small PlanRoom = omega arith
number_small RegisterUnknown = omega arith

-- and so the line is short
pub refused-most : (n f : ℕ) → n < 1000 → f < 1000 → length (refused_line n f) ≤ 16
unfolding counts_line
refused-most n f h k = simp length-append (omega (arith, decimal-most 2 n h, decimal-most 2 f k))
