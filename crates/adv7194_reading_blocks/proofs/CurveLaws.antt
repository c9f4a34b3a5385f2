-- A curve's numbers are those of its bytes. Assumes nothing.
use Rattle.std.proofs.Common.{◌≡◌, ℕ, ◌+◌, ◌≤◌, List, ℤ, cond, ap, ◌∙◌}
use lib.Dec.{leb}
use borrow.Author.Tests.{le-leb}
use Rattle.refusals.specs.Refusal.{accepted, refused}
use Rattle.field_table.specs.Blocks.{store_from, slice}
use Rattle.adv7194_table.specs.declared.blocks.Block.{Block}
use Rattle.adv7194_table.specs.Table.{curve, whole}
use Rattle.adv7194_gamma.specs.Curve.{curve_numbers}
use Rattle.adv7194_settings.specs.Held.{store_entry}
use Rattle.adv7194_reading_blocks.specs.Blocks.{CurveSize}

-- a block's numbers are those of its bytes
pub kept_block : (image : List ℕ) (zs : List ℤ) (b : Block) {l : List ℤ} {bs : List ℕ} → CurveSize b → bs ≡ slice 0 image b.register 7
    → l ≡ store_from zs b.index (curve_numbers bs) → l ≡ store_entry image zs (whole curve b)
unfolding slice
kept_block image zs b size e h = h ∙ ap (λ (x : List ℕ). store_from zs b.index (curve_numbers x)) e ∙ rw (size.registers, size.numbers)

-- the bytes of an image that has the registers
pub bytes_read : {ps bs : List ℕ} (r n : ℕ) → accepted ps ≡ cond (leb (r + 7) n) (accepted bs) (refused 1) → r + 7 ≤ n → ps ≡ bs
bytes_read r n e h = let q = rw (le-leb (r + 7) n h) at e in cc
