-- The text of a board by what its reading answers. Assumes nothing.
use mathlib.Core.Path.{◌≡◌, sym, ap, ◌∙◌}
use mathlib.Core.List.{List, ◌++◌, flat_map}
use Prim.Native.Nat.{ℕ}
use lib.IntN.{ℤ}
use lib.ListN.{length}
use Rattle.listing.specs.Lines.{refused_line}
use Rattle.refusals.specs.Verdict.{good, refused_at, left_by}
use Rattle.adv7194_bus.specs.declared.board.Board.{Board}
use Rattle.adv7194_table.specs.Fields.{number_count}
use Rattle.adv7194_table.specs.Table.{table}
use Rattle.adv7194_settings.specs.Reading.{read_of, read_left}
use Rattle.adv7194_listing.specs.Faults.{fault_text}
use Rattle.adv7194_lines.specs.Lines.{line_of}
use Rattle.adv7194_listing.specs.Listing.{text_by, settings_text}
use Rattle.adv7194_settings.specs.Held.{settings_held}

module _ (b : Board) (zs : List ℤ) (l : length zs ≡ number_count) where
  -- settings that were read
  pub text_read : {left : List ℤ} → good tt ≡ read_of b (length zs) → left ≡ read_left b zs → flat_map (line_of left) table ≡ settings_text b
  unfolding settings_text
  text_read e m =
      ap (λ (ys : List ℤ). flat_map (line_of ys) table) (m ∙ ap (left_by zs (settings_held b.registers)) (sym e))
      ∙ ap (text_by b.registers) e ∙ ap (λ (n : ℕ). text_by b.registers (read_of b n)) l

  -- a refusal
  pub text_refused : (n f : ℕ) → refused_at n f ≡ read_of b (length zs) → refused_line n f ++ fault_text b.registers n f ≡ settings_text b
  unfolding settings_text
  text_refused n f e = ap (text_by b.registers) e ∙ ap (λ (k : ℕ). text_by b.registers (read_of b k)) l
