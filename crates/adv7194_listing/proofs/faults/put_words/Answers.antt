-- `faults::put_words`: a wrong length with the length, any other refusal by the template that it chooses. Assumes nothing.
use Rattle.std.proofs.Common.{◌≡◌, ◌∙◌, ℕ, ◌<◌, Bool, true, false, List, get_or, eqb, sym, ap, ap₂, refl, arith}
use lib.IntN.{ℤ}
use denote.Enum.Bare.{sameb}
use borrow.Author.Tests.{eqb-true}
use Rattle.refusals.specs.contracts.Refusal.{the_type}
use Rattle.refusals.specs.declared.Refusal.{Refusal}
use Rattle.refusals.specs.declared.Refusal.TheVariants.{ImageLength, BusAddress, OutOfRange, Reserved, SquarePixelWithOversampling, PedestalWithPal}
use Rattle.refusals.specs.declared.Refusal.TheVariants.{SignallingConflict, Disagreement, PlanBytes, PlanRoom, RegisterUnknown}
use Rattle.refusals.specs.Refusal.{number_of}
use Rattle.writing.specs.Ascii.{ascii}
use Rattle.writing.proofs.Putting.{same_text, wider}
use Rattle.template.specs.Columns.{column_in}
use Rattle.template.specs.Template.{filled, widths}
use Rattle.adv7194_names.specs.Widths.{words_width}
use Rattle.adv7194_listing.specs.Faults.{fault_words}
use Rattle.adv7194_listing.specs.Words.{words, word_table, words_of}
use Rattle.adv7194_listing.proofs.WordLaws.{Tells, column_is, length_told, told}
use Rattle.adv7194_listing.proofs.faults.put_words.Goals as goal

-- a refusal is the first exactly when its number is 1
first_number : (r : Refusal) → sameb the_type r ImageLength ≡ eqb (number_of r) 1
first_number ImageLength = refl
first_number BusAddress = refl
first_number OutOfRange = refl
first_number Reserved = refl
first_number SquarePixelWithOversampling = refl
first_number PedestalWithPal = refl
first_number SignallingConflict = refl
first_number Disagreement = refl
first_number PlanBytes = refl
first_number PlanRoom = refl
first_number RegisterUnknown = refl

pub returns-then-eq : goal.returns-then-eq
returns-then-eq c =
    let fault = c.args.fault in
    let one : eqb (number_of fault.refusal) 1 ≡ true = sym (first_number fault.refusal) ∙ sym c.eq.ensures ∙ c.if-eq.true in
    record {
      written =
          same_text (length_told c.args.image.now fault.field (eqb-true _ _ one)) (wider words_width (omega arith) c.put_counted.ensures.written);
    }

-- the part of the table in the column that was chosen, and what it tells
part : (table : List ℕ) (column : ℕ) → table ≡ word_table → column_in table column ≡ ascii (get_or words column "")
part table column e = ap (λ (t : List ℕ). column_in t column) e ∙ column_is column

tells : (image : List ℕ) (r : Refusal) (f column : ℕ) {byte : ℕ} {found : Bool} → ((k : ℕ) → get_or image k 0 < 256) → found ≡ sameb the_type r ImageLength
    → found ≡ false → byte ≡ get_or image 0x19 0 → column ≡ words_of (number_of r) f byte → Tells image f column (fault_words image (number_of r) f)
tells image r f column small e other byte chosen =
    rw (chosen, byte) (told image f small (number_of r) (sym (first_number r) ∙ sym e ∙ other))

pub fill_column-requires : goal.fill_column-requires
fill_column-requires c =
    let fault = c.args.fault in
    let k = c.words_of-column.result in
    let t = tells c.args.image.now fault.refusal fault.field k (λ r. omega (arith, c.type_inv.image r)) c.eq.ensures c.if-eq.false c.byte_at.ensures.answer c.words_of-column.ensures.answer in
    (omega (arith, ap widths (part c.words-words.result k c.words-words.ensures.answer), t.room), omega arith)

pub returns : goal.returns
returns c =
    let fault = c.args.fault in
    let k = c.words_of-column.result in
    let t = tells c.args.image.now fault.refusal fault.field k (λ r. omega (arith, c.type_inv.image r)) c.eq.ensures c.if-eq.false c.byte_at.ensures.answer c.words_of-column.ensures.answer in
    let p = part c.words-words.result k c.words-words.ensures.answer in
    record {
      written =
          same_text (ap₂ (λ (x : List ℕ) (zs : List ℤ). filled x zs) p c.shown-numbers.ensures.answer ∙ t.same)
          (wider words_width (omega (arith, ap widths p, t.room)) c.fill_column.ensures.written);
    }
