-- Document 01, "House setting": NTSC, not square, 4x on, contrast and scales 1000, DNR input 1, both curves ratio 1/1, signalling off, every other field
-- 0 or no. Document 02, P8: the pedestal is no. The setting is handed out in 49 lent numbers: another length is refused as 3 at field 0, and then nothing
-- is written.
use Rattle.std.specs.Prelude.{cond, not, List, ℕ, ◌+◌, eqb, ℤ, pos, length, set}
use Rattle.refusals.specs.Verdict.{Verdict, fault_where}
use Rattle.field_table.specs.Coding.{Field}
use Rattle.adv7194_table.specs.declared.blocks.Block.{Block}
use Rattle.adv7194_table.specs.Fields.{number_count, oversampling, pedestal, contrast, u_scale, v_scale, dnr_input}
use Rattle.adv7194_table.specs.Blocks.{curve_a, curve_b}
use Rattle.adv7194_settings.specs.Held.{no_numbers}

-- settings with one field set
abbrev pub with : Field → ℕ → List ℤ → List ℤ
with f n zs = set zs f.row.index (pos n)

-- settings with a curve's ratio set; its kind is 0
abbrev pub with_ratio : Block → ℕ → ℕ → List ℤ → List ℤ
with_ratio b p q zs = set (set zs (b.index + 1) (pos p)) (b.index + 2) (pos q)

-- the house setting (document 01's term; its pedestal is document 02's)
unfoldable pub house : List ℤ
house =
    with_ratio curve_b 1 1 (with_ratio curve_a 1 1
    (with dnr_input 1 (with v_scale 1000 (with u_scale 1000 (with contrast 1000 (with pedestal 0 (with oversampling 1 no_numbers)))))))

-- what asking for the house setting in that many lent numbers answers
abbrev pub house_of : ℕ → Verdict (Unit {0})
house_of count = fault_where (not (eqb count number_count)) 3 0

-- the lent numbers after it: the house setting, or as they were
abbrev pub house_left : List ℤ → List ℤ
house_left zs = cond (eqb (length zs) number_count) house zs
