-- Laws of the words of faults: each refusal's words are its template filled, and any has room. Assumes nothing.
use mathlib.Core.Path.{◌≡◌, refl, sym, ap}
use mathlib.Core.Bool.{Bool, true, false, cond}
use mathlib.Core.List.{List, ◌++◌, append_assoc, append-nil, flat_map}
use Prim.Native.Nat.{ℕ, ◌≤◌, ◌<◌}
use native.Mathlib.Omega.{arith}
use lib.Dec.{eqb}
use lib.ListN.{length, get_or}
use Rattle.text.specs.Text.{line_end, signed, decimal, hex_text}
use Rattle.bits.specs.Maps.{has}
use Rattle.adv7194_signalling.proofs.KindLaws.{sent}
use Rattle.field_table.specs.Walk.{held}
use Rattle.writing.specs.Ascii.{ascii}
use Rattle.template.specs.Columns.{column_in}
use Rattle.template.specs.Template.{stands_for, filled, widths}
use Rattle.template.proofs.ColumnLaws.{clean_words, word_at}
use Rattle.template.proofs.TemplateLaws.{byte-code}
use Rattle.adv7194_names.specs.Names.{named}
use Rattle.adv7194_names.specs.Widths.{words_width}
use Rattle.adv7194_lines.specs.Lines.{label_text}
use Rattle.adv7194_listing.specs.Faults.{field_row, reserved_text, conflict_text, fault_words, fault_text}
use Rattle.adv7194_listing.specs.Words.{words, word_table, reserved_words, conflict_words, words_of, shown_numbers}
use Rattle.field_table.specs.Blocks.{slice}

-- the table's column k is word k
clean_words_lem : clean_words words ≡ true
unfolding words
clean_words_lem = refl

pub column_is : (k : ℕ) → column_in word_table k ≡ ascii (get_or words k "")
column_is k = word_at words k clean_words_lem

-- a wrong length is told with the length
pub length_told : (image : List ℕ) (f : ℕ) {n : ℕ} → n ≡ 1
    → ascii ": " ++ decimal (length image) ++ ascii " bytes, not 54" ≡ ascii ": " ++ fault_words image n f
unfolding fault_words
length_told image f e = rw e

-- the template of a column, filled, is a text after a colon, and has room
pub record Tells (image : List ℕ) (f column : ℕ) (text : List ℕ) : Type 0 where
  pub same : filled (ascii (get_or words column "")) (shown_numbers image f column) ≡ ascii ": " ++ text
  pub room : widths (ascii (get_or words column "")) ≤ words_width

module _ (image : List ℕ) (f : ℕ) where
  pick : (b : Bool) {x y : ℕ} {t u : List ℕ} → Tells image f x t → Tells image f y u → Tells image f (cond b x y) (cond b t u)
  pick true p q = p
  pick false p q = q

  -- row 4
  reserved : ((r : ℕ) → get_or image r 0 < 256) → Tells image f (reserved_words f) (reserved_text image f)
  unfolding reserved_words reserved_text shown_numbers filled stands_for words signed widths hex_text flat_map slice
  reserved small =
      pick (eqb f 11)
      (record {
        same = rw (byte-code (get_or image 0x19 0) (small 0x19), byte-code (get_or image 0x1a 0) (small 0x1a), byte-code (get_or image 0x1b 0) (small 0x1b));
        room = omega arith;
      })
      (pick (eqb (field_row f).outside 3) (record { same = refl; room = omega arith })
      (record { same = ap (λ (t : List ℕ). ascii ": reserved code " ++ t) (append-nil (decimal (held image (field_row f)))); room = omega arith }))

  -- row 7
  conflict : (r19 : ℕ) → Tells image f (conflict_words r19) (conflict_text r19)
  unfolding filled stands_for words widths
  conflict r19 =
      pick (has r19 7) (pick (sent r19) (record { same = refl; room = omega arith }) (record { same = refl; room = omega arith }))
      (pick (sent r19) (record { same = refl; room = omega arith })
      (pick (has r19 4) (record { same = refl; room = omega arith }) (record { same = refl; room = omega arith })))

  -- row n, but for row 1
  pub told : ((r : ℕ) → get_or image r 0 < 256) → (n : ℕ) → eqb n 1 ≡ false → Tells image f (words_of n f (get_or image 0x19 0)) (fault_words image n f)
  unfolding words_of fault_words shown_numbers filled stands_for words signed widths
  told small n e =
      rw e
      (pick (eqb n 3) (record { same = refl; room = omega arith })
      (pick (eqb n 4) (reserved small)
      (pick (eqb n 5) (record { same = refl; room = omega arith })
      (pick (eqb n 6) (record { same = refl; room = omega arith })
      (pick (eqb n 7) (conflict (get_or image 0x19 0))
      (pick (eqb n 8) (pick (eqb f 28) (record { same = refl; room = omega arith }) (record { same = refl; room = omega arith }))
      (pick (eqb n 11) (record { same = refl; room = omega arith }) (record { same = refl; room = omega arith }))))))))

-- the whole line: place, words and line end
pub line_told : (image : List ℕ) (n f : ℕ)
    → cond (eqb f 0) (ascii (named f).name) (label_text f) ++ (ascii ": " ++ fault_words image n f) ++ line_end ≡ fault_text image n f
unfolding fault_text
line_told image n f =
    ap (λ (t : List ℕ). t ++ line_end) (sym (append_assoc (cond (eqb f 0) (ascii (named f).name) (label_text f)) (ascii ": ") (fault_words image n f)))
