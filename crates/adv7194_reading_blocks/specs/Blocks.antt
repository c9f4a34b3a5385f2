-- What a step of reading takes for granted of a block, and what it reads from one by settings that were read before.
use Rattle.std.specs.Prelude.{◌≡◌, cond, List, [], ℕ, ℤ}
use Rattle.bits.specs.Bytes.{same_bytes}
use Rattle.refusals.specs.Refusal.{Judged, accepted, refused}
use Rattle.adv7194_table.specs.declared.blocks.Block.{Block}
use Rattle.adv7194_subcarrier.specs.Subcarrier.{word_codes}

-- the reading of the subcarrier word's bytes, by the standard and square pixel
abbrev pub word_reading : List ℕ → ℤ → ℤ → Judged (List ℤ)
word_reading bytes standard square = cond (same_bytes bytes (word_codes standard square)) (accepted []) (refused 8)

-- a block is of a curve's size
pub record CurveSize (b : Block) : Type 0 where
  pub numbers : b.numbers ≡ 10
  pub registers : b.registers ≡ 7
